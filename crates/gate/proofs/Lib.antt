pub mod Tests
pub mod First
mod Steps
mod Faultless
mod Tally
pub mod Placing
pub mod Lines
