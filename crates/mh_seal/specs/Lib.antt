pub mod Numbers
pub mod Octets
pub mod Digests
pub mod Text
pub mod Lines
pub mod Breaking
pub mod Reading
pub mod Sections
