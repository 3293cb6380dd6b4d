-- What only carries the proofs.
pub mod Steps
pub mod Words
