-- Laws that belong to no one function.
pub mod Room
pub mod Sums
pub mod Search
pub mod Rounds
