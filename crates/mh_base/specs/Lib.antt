pub mod Path
pub mod Event
pub mod Kinds
pub mod Limits
pub mod Mixing
pub mod Reading
