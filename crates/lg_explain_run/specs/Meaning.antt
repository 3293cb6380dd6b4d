-- What is right: whoever wants to believe the contracts reads these.
pub mod Running
pub mod Files
pub mod Words
pub mod Paging
pub mod Newest
pub mod Examples
pub mod WordExamples
