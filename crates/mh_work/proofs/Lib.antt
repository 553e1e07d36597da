pub mod PortionLemmas
pub mod LinkLemmas
pub mod BucketLemmas
