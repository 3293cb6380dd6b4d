-- What is right: to believe the contracts, read these.
pub mod Bytes
pub mod Spelling
pub mod Fault
pub mod Decoding
pub mod Reading
pub mod Examples
pub mod VersionExamples
pub mod VersionThreeExamples
pub mod FrontExamples
