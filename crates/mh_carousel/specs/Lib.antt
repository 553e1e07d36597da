pub mod Carried
pub mod Ahead
pub mod Arrival
pub mod Waited
