pub mod CellLemmas
pub mod MarkLemmas
