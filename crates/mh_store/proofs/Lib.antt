pub mod TableLemmas
pub mod PlaceLemmas
pub mod FreshLemmas
pub mod BothLemmas
mod HeldLemmas
mod BringingLemmas
mod RisingLemmas
pub mod NamedLemmas
pub mod PlacingLemmas
mod BoxKeptLemmas
mod ApartLemmas
