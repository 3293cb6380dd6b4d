-- What only carries the proofs.
pub mod Bounds
pub mod HostRows
pub mod Reading
