-- The definitions that the crate's contracts cite, beside those of `rules` and `acting`.
pub mod Asking
pub mod Answering
