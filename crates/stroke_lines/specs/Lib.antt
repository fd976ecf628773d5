pub mod Drawn
pub mod Messages
pub mod Outlined
pub mod Replayed
pub mod Settings
