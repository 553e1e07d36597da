pub mod FileLemmas
pub mod AheadLemmas
pub mod TableLemmas
pub mod PlaceLemmas
pub mod LinkLemmas
pub mod AddLemmas
pub mod WalkLemmas
