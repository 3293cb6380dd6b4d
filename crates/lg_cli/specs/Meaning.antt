-- What is right: whoever wants to believe the contracts reads these.
pub mod Ending
pub mod Faults
pub mod Running
