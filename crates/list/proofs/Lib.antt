pub mod Cases
pub mod Keeping
pub mod Answering
