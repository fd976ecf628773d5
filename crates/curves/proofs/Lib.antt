mod Chords
mod Times
mod LineTimes
mod Reversing
pub mod Within
pub mod Rising
