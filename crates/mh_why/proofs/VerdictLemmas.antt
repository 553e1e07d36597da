-- What a verdict says of files.
use Rattle.std.specs.Prelude.{◌≡◌, [], Result, Ok, refl}
use Rattle.std.proofs.Common.{inl, inr, ap, subst, sym}
use Rattle.mh_model.specs.Service.{Service}
use Rattle.mh_laws.specs.Budget.{Bounds}
use Rattle.mh_flow.specs.Equipment.{equipped}
use Rattle.mh_told.specs.declared.unplayable.Unplayable.{Unplayable}
use Rattle.mh_told.specs.declared.unplayable.Unplayable.TheVariants as unplayable
use Rattle.mh_told.specs.Reading.{Fails}
use Rattle.mh_verify.specs.declared.refusal.Refusal.{Refusal}
use Rattle.mh_verify.specs.declared.refusal.RefusalKind.TheVariants as kind
use Rattle.mh_verify.specs.Free.{IsVerified, Verified}
use Rattle.mh_verify.specs.Order.{IsTold}
use Rattle.mh_why.specs.Verdict.{IsVerdictOn}
use Rattle.mh_why.specs.declared.verdict.Verdict.TheVariants as verdict

-- a refusal that is not for want of memory names what comes first
pub refused_so : (s : Service) (r : Refusal) → IsTold s [] r → (r.kind ≡ kind.NoMemory → ⊥) → IsVerdictOn (Ok s) (verdict.Refused r)
refused_so s r (inl first) other = (s, refl, first)
refused_so s r (inr same) other = absurd (other (ap (λ (x : Refusal). x.kind) same))

-- an accepted service has its bounds
pub accepted_so : (s : Service) (a : Verified) (b : Bounds) → a.service ≡ equipped s [] → b ≡ a.bounds → IsVerified a → IsVerdictOn (Ok s) (verdict.Accepted b)
accepted_so s a b same bounds so =
    let whole : a ≡ record { service = equipped s []; bounds = b } = λ i. record { service = same i; bounds = sym bounds i } in
    (s, refl, subst IsVerified whole so)

-- an error that is not for want of memory is what the reading says
pub unreadable_so : (why : Unplayable) (r : Result Service Unplayable) → Fails why r → (why ≡ unplayable.NoMemory → ⊥) → IsVerdictOn r (verdict.Unreadable why)
unreadable_so (unplayable.File name number offset) r so other = so
unreadable_so (unplayable.Service number group) r so other = so
unreadable_so (unplayable.Tags number place) r so other = so
unreadable_so (unplayable.Script number) r so other = so
unreadable_so unplayable.NoMemory r so other = absurd (other refl)
