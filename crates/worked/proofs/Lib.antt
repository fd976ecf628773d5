pub mod Numbers
pub mod Table
