-- What is right: whoever wants to believe the contracts reads these.
pub mod Entries
pub mod Examples
pub mod Files
pub mod FolderExamples
pub mod Folders
pub mod Heads
pub mod Lives
pub mod Members
pub mod Replays
pub mod Shown
pub mod Verdicts
pub mod Words
