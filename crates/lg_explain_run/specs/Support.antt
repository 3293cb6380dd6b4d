-- What only carries the proofs.
pub mod Pages
