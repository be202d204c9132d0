pub mod Acting
pub mod Running
pub mod Telling
pub mod Saying
