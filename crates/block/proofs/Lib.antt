-- Laws that belong to no one function. Callers cite those of `Using`, with `op-read` of `Codes` and `empty-Holds` of `Entering`.
pub mod Rowing
pub mod Entering
pub mod Folding
pub mod Codes
pub mod Using
pub mod Parts
