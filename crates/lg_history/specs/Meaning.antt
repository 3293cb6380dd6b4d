-- What is right: whoever wants to believe the contracts reads these.
pub mod History
pub mod Rest
pub mod Examples
