-- What only carries the proofs.
pub mod Lends
pub mod Places
