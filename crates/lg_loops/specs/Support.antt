-- What only carries the proofs.
pub mod Took
pub mod Acted
