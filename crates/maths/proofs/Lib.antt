pub mod Alike
pub mod Asking
mod Narrowing
mod Remainders
pub mod Rows
mod Specials
mod Chunks
