pub mod Digits
pub mod Enough
pub mod InPlace
pub mod Joining
pub mod Ranges
pub mod Reaching
pub mod Remainders
pub mod Rooms
mod Whole
