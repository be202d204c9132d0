-- Laws that belong to no one function.
pub mod Flipping
pub mod Sections
