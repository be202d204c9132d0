-- The definitions that the crate's contracts cite, beside those of `rules`, `rows`, `closing` and `writing`.
pub mod Map
