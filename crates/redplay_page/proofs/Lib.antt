mod AsBox
mod FindingLemmas
mod Full
mod PlayLemmas
mod ReportLemmas
mod StandingLemmas
mod ToldLemmas
mod TriedLemmas
