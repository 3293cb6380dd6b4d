-- Definitions that only support the proofs.
pub mod Changes
pub mod Reached
pub mod Room
pub mod Rows
pub mod State
