-- What is right: whoever wants to believe the contracts reads these.
pub mod Answers
pub mod Lines
pub mod Rounds
pub mod Examples
