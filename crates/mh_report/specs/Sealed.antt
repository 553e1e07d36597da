-- What is written of a service that is sealed, and how it ends.
use Rattle.std.specs.Prelude.{◌≡◌, ◌≢◌, ℕ, List, [], Result, Ok, Err, Vec, unwrap_or}
use Rattle.std.specs.declared.alloc.Global.{Global}
use Rattle.mh_model.specs.Service.{Service}
use Rattle.mh_seal.specs.declared.seal.Seal.{Seal}
use Rattle.mh_seal.specs.Text.{seal_text}
use Rattle.mh_sealing.specs.Sealing.{IsToldOf, IsUnsealable, in_order}
use Rattle.mh_told.specs.declared.unplayable.Unplayable.{Unplayable}
use Rattle.mh_told.specs.declared.unplayable.Unplayable.TheVariants as unplayable
use Rattle.mh_verdict.specs.Lines.{complaint, refusal_lines}
use Rattle.mh_verify.specs.declared.refusal.Refusal.{Refusal}
use Rattle.mh_verify.specs.Free.{IsVerified, Verified}
use Rattle.mh_verify.specs.Order.{Names}
use Rattle.mh_report.specs.declared.options.Options.{Options}
use Rattle.mh_report.specs.declared.status.Status.{Status}
use Rattle.mh_report.specs.declared.status.Status.TheVariants as status
use Rattle.mh_report.specs.Reading.{tags_of}

-- the octets of the file that gives tags; none where there is none
abbrev pub tag_octets : Options → List ℕ
tag_octets options = unwrap_or (tags_of options) []

-- of a service whose late scenes are in the order of its groups: why it is refused; which group has no spelling; or its seal
pub data SealsOrdered (tags : List ℕ) (v : Service) : List ℕ → Status → Type 0 where
  seal_refused : (r : Refusal) → Names v [] r → SealsOrdered tags v (refusal_lines r) status.Refused
  seal_unspelled : (a : Verified) (e : Unplayable) → a.service ≡ v → IsVerified a → IsUnsealable v.files e →
      SealsOrdered tags v (complaint e) status.Unreadable
  seal_made : (a : Verified) (s : Seal) → a.service ≡ v → IsVerified a → IsToldOf v a.bounds tags s →
      SealsOrdered tags v (seal_text s) status.Good

-- What is written of a service that is sealed, and how it ends.
abbrev pub Seals : List ℕ → Result Service Unplayable → List ℕ → Status → Type 0
Seals tags (Err e) report how = (report ≡ complaint e) × (how ≡ status.Unreadable)
Seals tags (Ok v) report how = SealsOrdered tags (in_order v) report how

-- the text of its seal is meant, or the line on what stands in the way, if that is not memory
abbrev pub IsMeant : List ℕ → Service → Result (Vec ℕ Global) Unplayable → Type 0
IsMeant tags v (Ok text) = SealsOrdered tags v text.items status.Good
IsMeant tags v (Err e) = e ≢ unplayable.NoMemory → SealsOrdered tags v (complaint e) status.Unreadable
