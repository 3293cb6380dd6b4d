-- Definitions that only support the proofs.
pub mod Bounds
pub mod Padding
pub mod Places
pub mod Words
pub mod Members
pub mod Slots
pub mod Standing
