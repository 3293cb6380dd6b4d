-- What is right: whoever wants to believe the contracts reads these.
pub mod Values
pub mod Spelling
pub mod Fitting
pub mod Scanning
pub mod Listing
pub mod Next
pub mod Examples
pub mod Starts
