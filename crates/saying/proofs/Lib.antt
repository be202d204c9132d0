pub mod Places
pub mod Taking
pub mod Checking
pub mod Saying
