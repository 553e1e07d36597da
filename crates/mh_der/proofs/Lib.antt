pub mod DigitLemmas
pub mod TagLemmas
pub mod BeginningLemmas
pub mod LengthLemmas
pub mod ElementLaws
pub mod IntegerLaws
pub mod WritingLemmas
