-- Laws that belong to no one function.
pub mod Scoring
pub mod Visits
pub mod Looping
