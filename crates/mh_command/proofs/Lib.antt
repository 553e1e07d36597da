pub mod ValueLemmas
pub mod MatchLemmas
