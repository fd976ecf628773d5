mod Filling
pub mod Growing
mod Hex
mod Paths
pub mod Reports
mod Shown
