pub mod Room
pub mod Places
pub mod Chains
pub mod Indexing
pub mod Sieve
pub mod Crossing
pub mod Parts
