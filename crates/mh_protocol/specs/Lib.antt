pub mod Positions
pub mod Edits
pub mod Heads
pub mod Frames
pub mod Answers
pub mod Asked
pub mod Uris
pub mod Counting
