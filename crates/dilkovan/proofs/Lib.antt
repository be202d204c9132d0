pub mod Answers
pub mod Blaming
mod Handing
pub mod Placing
