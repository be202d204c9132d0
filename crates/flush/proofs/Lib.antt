-- Laws that belong to no one function.
pub mod Keeping
pub mod Cutting
pub mod Runs
