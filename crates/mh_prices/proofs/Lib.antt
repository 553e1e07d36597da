mod TurnedLemmas
mod ThroughLemmas
pub mod KeysLemmas
pub mod FoundLemmas
pub mod NearLemmas
