-- What is right: whoever wants to believe the contracts reads these.
pub mod Accounts
pub mod AccountExamples
pub mod DateExamples
pub mod Dates
pub mod Json
pub mod JsonExamples
pub mod PageExamples
pub mod Pages
pub mod SentenceExamples
pub mod Sentences
pub mod Values
pub mod Verdicts
