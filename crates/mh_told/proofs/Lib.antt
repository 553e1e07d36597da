pub mod NumberLemmas
pub mod FrameLemmas
pub mod StretchLemmas
pub mod LateLemmas
pub mod MaskLemmas
pub mod LineLemmas
