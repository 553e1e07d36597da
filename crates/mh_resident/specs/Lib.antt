pub mod Kinds
pub mod Coming
