-- What carries the proofs.
pub mod Calling
pub mod Owning
