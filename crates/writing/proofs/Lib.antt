-- Laws that belong to no one function.
pub mod Following
pub mod Rotations
