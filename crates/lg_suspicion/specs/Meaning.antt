-- What is right: to believe the contracts, read these.
pub mod Accusers
pub mod Examples
pub mod Parts
