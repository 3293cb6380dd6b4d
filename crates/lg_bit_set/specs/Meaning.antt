-- What is right: to believe the contracts, read these.
pub mod Examples
pub mod Flags
