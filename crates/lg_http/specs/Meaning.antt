-- What is right: whoever wants to believe the contracts reads these.
pub mod Answers
pub mod Asked
pub mod Examples
pub mod Fronts
pub mod Hosts
pub mod Own
pub mod Parked
pub mod Phases
pub mod Peers
pub mod Slots
