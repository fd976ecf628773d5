pub mod Inputs
pub mod Outcomes
pub mod Table
