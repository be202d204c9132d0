-- What the functions that read a list's text ask and say.
pub mod Clauses
