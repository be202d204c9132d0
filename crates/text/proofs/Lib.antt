mod Cases
pub mod Decimals
pub mod Grammar
pub mod Lines
mod Scanning
pub mod Readings
pub mod Pasting
pub mod Sizes
pub mod Begun
