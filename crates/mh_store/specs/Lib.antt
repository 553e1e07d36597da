pub mod Table
pub mod Places
pub mod Trying
pub mod Keeping
pub mod Bringing
pub mod Placing
pub mod Apart
