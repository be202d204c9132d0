-- What the program that shortens a laboratory's text answers to every text, and what it promises.
pub mod Answer
pub mod Clauses
