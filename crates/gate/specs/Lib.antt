-- The definitions that the crate's contracts cite, beside those of `rules`.
pub mod Faults
pub mod Verdicts
pub mod Fields
pub mod Tests
pub mod Reading
pub mod Writing
pub mod Plain
