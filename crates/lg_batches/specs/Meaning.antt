-- What is right: whoever wants to believe the contracts reads these.
pub mod Sources
pub mod Standstills
pub mod Examples
