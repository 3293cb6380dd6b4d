-- What is right: to believe the contracts, read these.
pub mod Bounds
pub mod Config
pub mod Examples
pub mod Keys
pub mod Score
pub mod Tables
pub mod TimeoutValue
pub mod Timeouts
