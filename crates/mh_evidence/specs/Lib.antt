pub mod Putting
pub mod Cases
pub mod Counting
pub mod Spots
