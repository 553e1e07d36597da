pub mod SameLemmas
pub mod SearchLemmas
pub mod ComingLemmas
