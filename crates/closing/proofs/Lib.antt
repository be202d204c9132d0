-- Laws that belong to no one function.
pub mod Entries
pub mod Columns
pub mod Sending
