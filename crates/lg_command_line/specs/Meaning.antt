-- What is right: whoever wants to believe the contracts reads these.
pub mod Apps
pub mod Commands
pub mod Examples
pub mod ExplainExamples
pub mod KeyExamples
pub mod KeyOptions
pub mod Leaving
pub mod Ranges
