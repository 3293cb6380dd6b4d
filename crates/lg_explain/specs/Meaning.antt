-- What is right: whoever wants to believe the contracts reads these.
pub mod Accounts
pub mod EpisodeExamples
pub mod Episodes
pub mod Explanations
pub mod Folders
pub mod PlaceExamples
pub mod Places
pub mod Rounds
pub mod Sources
pub mod Standstills
pub mod Tellings
pub mod Told
