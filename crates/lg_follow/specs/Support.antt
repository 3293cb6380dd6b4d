-- What only carries proofs.
pub mod Telling
