-- What is right: whoever wants to believe the contracts reads these.
pub mod Examples
pub mod Members
pub mod Outcome
pub mod Past
pub mod Text
