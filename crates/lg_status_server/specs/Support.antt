-- What only carries proofs.
pub mod Later
pub mod Showing
