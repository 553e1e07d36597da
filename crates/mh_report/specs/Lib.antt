pub mod Sink
pub mod Report
pub mod Reading
pub mod Presets
pub mod Played
pub mod Converted
pub mod Sealed
pub mod BySeal
