pub mod Arithmetic
pub mod Steps
pub mod Roots
