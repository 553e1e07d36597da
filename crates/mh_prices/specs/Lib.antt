pub mod Meter
pub mod Meters
