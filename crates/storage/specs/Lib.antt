pub mod Meaning
pub mod Places
pub mod PlacesLemmas
