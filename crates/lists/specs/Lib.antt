pub mod Counted
pub mod Fixed
pub mod Lent
