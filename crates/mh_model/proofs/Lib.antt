pub mod FirstLemmas
pub mod PropertyLemmas
pub mod PlanesLemmas
pub mod PartLemmas
pub mod ListLemmas
pub mod ServiceLemmas
pub mod LeastLemmas
pub mod ClassLemmas
