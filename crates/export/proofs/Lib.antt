mod Cases
mod Answering
pub mod Keeping
