-- Laws that belong to no one function.
pub mod Summing
pub mod Stacks
pub mod Aims
pub mod Splitting
pub mod Nodes
pub mod Deferring
pub mod Making
pub mod Chaining
pub mod Steps
pub mod Looping
pub mod Entering
