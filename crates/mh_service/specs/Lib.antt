pub mod Gives
pub mod Resolved
pub mod Limits
pub mod Refusals
pub mod Numbers
pub mod Wanted
pub mod Contents
pub mod Sealed
