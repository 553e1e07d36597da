-- No program changes what a service is.
use Rattle.std.proofs.Common.{◌≡◌, List, refl}
use Rattle.mh_model.specs.declared.program.Signature.{Signature}
use Rattle.mh_model.specs.Service.{Service}
use Rattle.mh_model.specs.Configuration.{has_keys, is_service}
use Rattle.mh_flow.specs.Equipment.{equipped}

pub service_itself : (s : Service) (programs : List Signature) → is_service (equipped s programs) ≡ is_service s
unfolding is_service
service_itself s programs = refl

pub keys_itself : (s : Service) (programs : List Signature) → has_keys (equipped s programs) ≡ has_keys s
unfolding has_keys
keys_itself s programs = refl
