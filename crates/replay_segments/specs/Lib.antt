pub mod Coming
pub mod Text
