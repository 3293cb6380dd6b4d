-- Definitions that only support the proofs.
pub mod Steady
