pub mod LineLemmas
pub mod RingLemmas
pub mod RoundLemmas
pub mod RefLemmas
pub mod KeepLemmas
pub mod ShelfLemmas
pub mod PlaceLemmas
pub mod WalkLemmas
