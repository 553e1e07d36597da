pub mod Asks
pub mod Below
pub mod Drawing
pub mod Hearing
pub mod Playing
pub mod Posts
pub mod Replayed
pub mod Screen
