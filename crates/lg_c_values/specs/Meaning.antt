-- What is right: to believe the contracts, read these.
pub mod Addresses
pub mod Configs
pub mod Names
pub mod Records
