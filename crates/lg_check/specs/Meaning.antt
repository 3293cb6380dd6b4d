-- What is right: whoever wants to believe the contracts reads these.
pub mod Checks
pub mod Examples
pub mod Spelling
