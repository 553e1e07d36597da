pub mod Part
pub mod Seal
pub mod Stubs
pub mod Bringing
pub mod Sealed
pub mod Digests
pub mod Joined
pub mod Told
