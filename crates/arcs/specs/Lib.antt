pub mod Curves
pub mod Centres
pub mod Sweeps
pub mod Chords
pub mod Ends
pub mod Laws
pub mod LoneArcs
