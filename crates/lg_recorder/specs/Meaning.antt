-- What is right: whoever wants to believe the contracts reads these.
pub mod Batches
pub mod FaultLines
pub mod FileNames
pub mod Folders
pub mod Holding
pub mod HoldingExamples
