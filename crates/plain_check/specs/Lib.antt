-- The definitions that the crate's contracts cite, beside those of `rules`.
pub mod Refusing
