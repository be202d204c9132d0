-- What the plain engine answers to every list's text, and what the functions that answer say.
pub mod Answer
pub mod Clauses
