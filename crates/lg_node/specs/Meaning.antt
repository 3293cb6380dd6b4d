-- What is right: whoever wants to believe the contracts reads these.
pub mod Starts
pub mod Nodes
pub mod StartExamples
