pub mod Words
pub mod Layout
pub mod Senses
pub mod Walk
pub mod Objects
pub mod Outline
pub mod Renumbering
