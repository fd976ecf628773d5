pub mod Halves
pub mod Widths
mod Causes
mod Leading
