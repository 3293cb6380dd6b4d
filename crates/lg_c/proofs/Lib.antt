pub mod Keeping
pub mod Values
