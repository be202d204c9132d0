-- What an emission promises.
pub mod Emitted
pub mod Turns
