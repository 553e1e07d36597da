pub mod Content
pub mod Members
pub mod Moved
