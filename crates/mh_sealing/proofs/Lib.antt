pub mod OrderLemmas
pub mod SpelledLemmas
pub mod WholeLemmas
pub mod HereLemmas
