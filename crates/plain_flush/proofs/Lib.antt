-- Laws that belong to no one function.
pub mod Choosing
pub mod Parts
