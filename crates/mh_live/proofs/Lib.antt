pub mod DrawingLemmas
pub mod HearingLemmas
pub mod PlaceLemmas
pub mod ReplayLemmas
pub mod DoneLemmas
