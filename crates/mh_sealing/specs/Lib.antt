pub mod Sealing
pub mod Here
