-- Laws that belong to no one function. Callers cite those of `Joining`.
pub mod Joining
