-- What is right: to believe the contracts, read these.
pub mod Rows
