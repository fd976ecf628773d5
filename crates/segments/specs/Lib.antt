pub mod Lists
pub mod Marks
pub mod Pieces
