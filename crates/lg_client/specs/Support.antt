-- What only carries the proofs.
pub mod Asking
pub mod Bounds
pub mod Leaving
pub mod Reading
pub mod Receiving
