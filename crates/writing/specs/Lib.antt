-- What a writing promises.
pub mod Written
