pub mod CallLemmas
pub mod FilterLemmas
pub mod NumeralLemmas
