mod Drawn
mod Going
pub mod Lists
mod Steps
pub mod Whole
pub mod Few
mod Halving
mod Slicing
mod Cutting
