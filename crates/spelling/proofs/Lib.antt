mod Cases
pub mod Forms
pub mod Spelling
pub mod Verdicts
pub mod Chunks
