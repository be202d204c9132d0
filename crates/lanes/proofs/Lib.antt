pub mod Digits
pub mod Noting
pub mod Settling
