pub mod Changes
pub mod Diagnostics
pub mod Publishing
