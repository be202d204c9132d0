mod Few
pub mod Fitting
pub mod Each
pub mod Unsaid
pub mod Made
