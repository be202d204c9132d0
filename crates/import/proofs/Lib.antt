mod Cases
mod Lines
pub mod Taking
pub mod Keeping
