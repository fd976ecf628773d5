pub mod Kinds
pub mod Refusals
pub mod Styles
pub mod Vectors
