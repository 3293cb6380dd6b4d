-- What is right: whoever wants to believe the contracts reads these.
pub mod Bounds
pub mod Commands
pub mod Examples
pub mod Faults
pub mod Lines
pub mod Values
pub mod Words
