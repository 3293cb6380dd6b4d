-- What is right: whoever wants to believe the contracts reads these.
pub mod ChangeExamples
pub mod Changes
pub mod Rule
pub mod Views
