pub mod MisfitLemmas
pub mod NumberLemmas
pub mod ShapeLemmas
pub mod WritingLemmas
pub mod SameLemmas
