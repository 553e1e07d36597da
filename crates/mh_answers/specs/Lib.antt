pub mod Paths
pub mod Objects
pub mod Locations
pub mod Renaming
pub mod Layout
