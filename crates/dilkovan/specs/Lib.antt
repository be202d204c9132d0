-- The definitions that the crate's contracts cite, beside those of `rules`, `cnot_min` and `list`.
pub mod Doors
pub mod Pairs
pub mod Plain
