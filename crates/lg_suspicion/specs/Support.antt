-- Definitions that only support the proofs.
pub mod Accusers
