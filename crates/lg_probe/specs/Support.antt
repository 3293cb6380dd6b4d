-- Definitions that only support the proofs.
pub mod Helpers
pub mod Order
pub mod Relays
