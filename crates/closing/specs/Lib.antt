-- The definitions that the crate's contracts cite, beside those of `rules` and `rows`.
pub mod Additions
pub mod Emission
