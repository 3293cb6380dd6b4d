-- What only carries the proofs.
pub mod Bounds
pub mod Options
pub mod Requests
