-- What is right: to believe the contracts, read these.
pub mod Log
pub mod Suspicions
pub mod Gossip
pub mod Applied
pub mod Pages
pub mod Examples
pub mod NewsExamples
pub mod LeaveExamples
pub mod RepeatExamples
pub mod ForgetExamples
pub mod PageExamples
