pub mod ScalarLemmas
mod LineLemmas
pub mod TextLemmas
mod HeadLemmas
mod DivisionLemmas
mod BoxLemmas
