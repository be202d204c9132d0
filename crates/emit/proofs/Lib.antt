pub mod Appending
pub mod Rotations
