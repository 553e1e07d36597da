pub mod FindingLemmas
pub mod GroundLemmas
pub mod UseLemmas
