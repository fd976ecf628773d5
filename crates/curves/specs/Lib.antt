pub mod Lines
pub mod Curves
pub mod Ranges
pub mod Roots
pub mod Bends
