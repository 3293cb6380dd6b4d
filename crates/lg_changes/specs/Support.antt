-- What only carries the proofs.
pub mod Bounds
