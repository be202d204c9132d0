-- What the program of two lists answers to every text, and what its functions say.
pub mod Answer
pub mod Clauses
