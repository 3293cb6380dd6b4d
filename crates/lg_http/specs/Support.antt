-- What only carries proofs.
pub mod Only
