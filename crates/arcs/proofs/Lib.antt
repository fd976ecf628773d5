mod Reached
mod Round
pub mod Quarters
mod Turns
mod Unsigned
mod Points
pub mod Sends
