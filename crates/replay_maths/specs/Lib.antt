pub mod Steps
pub mod Figures
