-- The definitions that the crate's contracts cite, beside those of `rules` and `block`.
pub mod Asking
