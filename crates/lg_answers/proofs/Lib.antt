pub mod Pieces
pub mod Writing
