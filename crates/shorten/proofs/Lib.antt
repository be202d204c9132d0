mod Spelled
pub mod Keeping
