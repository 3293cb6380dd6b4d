-- What is right: whoever wants to believe the contracts reads these.
pub mod Heads
pub mod Fitting
pub mod Scanning
pub mod Examples
