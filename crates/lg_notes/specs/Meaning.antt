-- What is right: whoever wants to believe the contracts reads these.
pub mod About
pub mod Examples
pub mod Insights
pub mod Probing
pub mod Steps
pub mod Suspecting
pub mod Timers
pub mod WatchExamples
pub mod Watching
