-- What is right: whoever wants to believe the contracts reads these.
pub mod Words
pub mod Running
pub mod Examples
