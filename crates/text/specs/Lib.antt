-- Numbers, words and lines of a text: what they are, how they are printed, and what the functions say of them.
pub mod Bytes
pub mod Printing
pub mod Reading
pub mod Clauses
