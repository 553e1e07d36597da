pub mod Lookups
pub mod PartLemmas
pub mod ServiceLemmas
pub mod Doubles
pub mod OnceLemmas
pub mod ContentLemmas
pub mod FillLemmas
