pub mod Corners
pub mod Nibs
pub mod Offsets
pub mod Caps
pub mod Joins
