mod Cases
mod Fitting
pub mod Keeping
