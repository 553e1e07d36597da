pub mod Portions
pub mod Links
pub mod Listening
pub mod Listed
pub mod Loading
pub mod Batches
