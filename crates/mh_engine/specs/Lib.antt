pub mod Answer
pub mod Beside
pub mod Lent
pub mod Play
pub mod Told
pub mod Sealed
pub mod SealedLaw
pub mod Posts
