pub mod Meaning
pub mod Support
