pub mod RunLemmas
pub mod WithinLemmas
pub mod SafeEngine
pub mod StartLemmas
pub mod ReceiverLemmas
pub mod BesideLemmas
pub mod SealedLemmas
pub mod SealedStartLemmas
