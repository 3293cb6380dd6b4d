-- What is right: whoever wants to believe the contracts reads these.
pub mod AddressExamples
pub mod Addresses
pub mod Cutting
pub mod Examples
pub mod Faults
pub mod IpReading
pub mod Lines
pub mod Names
pub mod Numbers
pub mod Octets
pub mod Ranges
pub mod Reporting
pub mod Running
pub mod Steps
