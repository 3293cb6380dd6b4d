-- Definitions that only support the proofs.
pub mod Bounds
pub mod Differing
pub mod Hashing
