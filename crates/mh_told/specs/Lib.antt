pub mod Printing
pub mod Frame
pub mod Stretch
pub mod Told
pub mod Reading
pub mod Hex
pub mod Masks
