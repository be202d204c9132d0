-- What the functions that print ask and say.
pub mod Clauses
