pub mod Messages
pub mod Short
pub mod Github
pub mod Json
pub mod Formats
