pub mod Answers
pub mod Files
pub mod OnSession
pub mod Rooms
