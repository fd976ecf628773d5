pub mod Alikes
mod Pushes
mod Spelled
pub mod Stores
mod Turns
pub mod Firsts
pub mod Overwrites
pub mod Round
mod Bits
mod Backs
mod Decodings
mod Nexts
pub mod Overs
mod Taking
mod Walks
