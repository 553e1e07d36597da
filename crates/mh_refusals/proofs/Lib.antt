pub mod PlaceLemmas
pub mod ListLemmas
pub mod LawLemmas
pub mod HeldLemmas
pub mod ToldLemmas
