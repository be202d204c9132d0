-- The definitions that the crate's contracts cite, beside those of `rules` and the crates that it calls.
pub mod Sparing
