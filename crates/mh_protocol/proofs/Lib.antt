mod BackLemmas
mod FrameLemmas
mod HeadLemmas
mod NumberLemmas
mod PositionLemmas
mod CountingLemmas
