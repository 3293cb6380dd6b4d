-- What only carries the proofs.
pub mod Bounds
pub mod State
pub mod Send
pub mod Open
pub mod Hear
pub mod Tick
pub mod Ask
pub mod Joining
pub mod Leave
pub mod Step
pub mod Reached
pub mod Kept
pub mod Summary
