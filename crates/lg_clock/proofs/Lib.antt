pub mod Keeping
pub mod Turning
