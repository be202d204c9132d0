-- Laws that belong to no one function.
pub mod Distances
pub mod Cases
pub mod Scanning
pub mod Marking
pub mod Adding
pub mod Sifting
