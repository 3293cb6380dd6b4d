-- What only carries the proofs.
pub mod Counted
pub mod Folders
pub mod Known
pub mod Replayed
