-- Laws that belong to no one function: those of columns and of tables, for callers, and those of two words.
pub mod Laws
pub mod Words
pub mod Tables
