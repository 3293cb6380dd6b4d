-- What is right: to believe the contracts, read these.
pub mod Calls
pub mod Events
pub mod Replies
pub mod Statuses
