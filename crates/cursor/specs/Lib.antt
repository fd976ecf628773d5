pub mod Cursors
pub mod Drawings
pub mod Giving
pub mod Laws
pub mod Machines
pub mod Subpaths
pub mod Cuts
