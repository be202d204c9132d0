pub mod Checking
pub mod Meaning
pub mod Placing
pub mod Cases
