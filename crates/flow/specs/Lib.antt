pub mod Flowing
pub mod Streams
