-- Definitions that only support the proofs.
pub mod Heap
pub mod InTurn
pub mod Singles
pub mod Slots
