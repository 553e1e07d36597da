pub mod Rings
pub mod References
pub mod Shelf
