-- Definitions that only support the proofs.
pub mod Bounds
pub mod Places
pub mod Sets
pub mod Sound
