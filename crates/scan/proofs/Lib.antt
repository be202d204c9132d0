pub mod Folding
pub mod Pieces
pub mod Writing
