-- What is right: whoever wants to believe the contracts reads these.
pub mod Examples
pub mod Faults
pub mod Tally
