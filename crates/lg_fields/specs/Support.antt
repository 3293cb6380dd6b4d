-- Definitions that only support the proofs.
pub mod Bounds
pub mod Scans
