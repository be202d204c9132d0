-- What the program that tells where gates come from answers to every text, and what its functions say.
pub mod Answer
pub mod Clauses
