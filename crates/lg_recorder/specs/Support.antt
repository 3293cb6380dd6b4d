-- What only carries proofs.
pub mod Pieces
pub mod Steps
