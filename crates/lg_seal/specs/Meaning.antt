-- What is right: to believe the contracts, read these.
pub mod Reading
pub mod Tags
pub mod Sealing
pub mod Examples
