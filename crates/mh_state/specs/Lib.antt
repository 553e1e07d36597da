pub mod State
pub mod Object
pub mod Frames
pub mod Looking
pub mod Cell
pub mod Topmost
