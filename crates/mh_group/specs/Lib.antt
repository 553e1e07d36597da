pub mod Words
pub mod Table
pub mod Fit
pub mod Holdable
pub mod Same
