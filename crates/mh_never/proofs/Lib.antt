pub mod BodyLemmas
pub mod RunningLemmas
pub mod SayingLemmas
pub mod TimerLemmas
pub mod RegisterLemmas
pub mod SaidLemmas
pub mod FiringLemmas
pub mod NeverLemmas
