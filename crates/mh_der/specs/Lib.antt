pub mod Numbers
pub mod Tags
pub mod Element
pub mod Integer
pub mod Rest
pub mod Reading
pub mod Laws
