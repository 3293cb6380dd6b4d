-- What is right: to believe the contracts, read these.
pub mod Spelled
pub mod Scanned
pub mod Examples
