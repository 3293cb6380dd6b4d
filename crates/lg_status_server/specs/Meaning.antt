-- What is right: whoever wants to believe the contracts reads these.
pub mod Examples
pub mod Explaining
pub mod Readings
pub mod Served
pub mod Shown
