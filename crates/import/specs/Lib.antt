-- What import answers to every text, and what the functions that answer say.
pub mod Answer
pub mod Clauses
