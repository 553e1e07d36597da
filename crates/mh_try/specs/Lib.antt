pub mod Naming
pub mod Directory
pub mod Tried
pub mod Standing
pub mod Led
