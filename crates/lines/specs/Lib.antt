pub mod Text
pub mod Listing
pub mod Printing
pub mod Streams
