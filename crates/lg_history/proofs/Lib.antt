pub mod Legal
pub mod Seats
pub mod Rests
