-- What only carries the proofs.
pub mod After
pub mod Bounds
