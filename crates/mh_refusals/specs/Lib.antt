pub mod Places
pub mod Listed
pub mod Laws
pub mod Causes
