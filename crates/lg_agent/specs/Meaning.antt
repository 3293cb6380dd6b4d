-- What is right: whoever wants to believe the contracts reads these.
pub mod Values
pub mod Numbers
pub mod Calls
pub mod Closing
pub mod Examples
