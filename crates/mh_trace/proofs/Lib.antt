pub mod PlaceLemmas
pub mod RunLemmas
pub mod StepLemmas
pub mod CallLemmas
pub mod ListeningLemmas
pub mod PartsLemmas
pub mod NothingLemmas
