-- What is right: to believe the contracts, read these.
pub mod Examples
pub mod Helpers
pub mod Order
pub mod Relays
pub mod Round
