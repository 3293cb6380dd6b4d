-- What is right: whoever wants to believe the contracts reads these.
pub mod Changes
pub mod Examples
pub mod Kept
