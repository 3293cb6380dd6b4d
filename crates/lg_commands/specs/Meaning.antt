-- What is right: whoever wants to believe the contracts reads these.
pub mod Answering
pub mod Choosing
pub mod Examples
pub mod ExplainExamples
pub mod Explaining
pub mod Faults
pub mod Init
pub mod InitExamples
pub mod ReplayExamples
pub mod Replaying
pub mod Running
pub mod Spelled
pub mod Timeouts
pub mod Version
pub mod VersionExamples
