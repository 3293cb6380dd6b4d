-- What is right: to believe the contracts, read these.
pub mod Addr
pub mod Beats
pub mod Bounds
pub mod Claim
pub mod Examples
pub mod ForgetExamples
pub mod Name
pub mod Own
pub mod Past
pub mod Rows
pub mod Slots
pub mod Table
pub mod Unforgotten
pub mod Version
pub mod View
