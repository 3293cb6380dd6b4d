pub mod LineLaws
pub mod Promises
