pub mod Answers
pub mod Drawings
