-- What is right: whoever wants to believe the contracts reads these.
pub mod Checking
pub mod Examples
pub mod FirstExamples
pub mod FirstNumber
pub mod KeyTelling
pub mod OwnAddress
pub mod Reporting
pub mod Running
pub mod Telling
pub mod Wishes
pub mod WordExamples
pub mod Words
