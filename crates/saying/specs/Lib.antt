-- What a program that takes a text answers, why it refuses one, and what stands in the room of an answer.
pub mod Answer
pub mod Reasons
pub mod Clauses
