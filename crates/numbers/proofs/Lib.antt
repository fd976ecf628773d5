pub mod Orders
pub mod Patterns
pub mod Rooted
pub mod Scales
pub mod Squares
pub mod Wholes
pub mod Differences
pub mod Quotients
