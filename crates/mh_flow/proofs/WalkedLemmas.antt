-- What opens nothing.
use Rattle.std.proofs.Common.{◌≡◌, ℕ, Bool, true, false, ◌&&◌, [], Option, Some, None, refl, sym}
use Rattle.std.specs.List.{list_any}
use Rattle.mh_base.specs.declared.obj_ref.ObjRef.{ObjRef}
use Rattle.mh_model.specs.declared.config.Config.{Config}
use Rattle.mh_model.specs.declared.object.Fixed.{Fixed}
use Rattle.mh_model.specs.Configuration.{present}
use Rattle.mh_model.specs.Reference.{same_ref}
use Rattle.mh_model.specs.Service.{Service}
use Rattle.mh_laws.specs.Flow.{is_reference_in}
use Rattle.mh_flow.specs.declared.chart.Bases.{Bases}
use Rattle.mh_flow.specs.Chart.{Chart, IsChart}
use Rattle.mh_flow.specs.Opening.{by_object, by_variable}
use Rattle.mh_flow.proofs.BridgeLemmas.{untargeted_opens_nothing}
use Rattle.mh_flow.proofs.OpeningLemmas.{not_walked}

-- a variable through which no action has its target
pub untargeted : (v : Service) (ch : Chart) (k : ℕ) (c : Config) (b : Bases) (w : ObjRef) (q : Option ObjRef) → IsChart v ch → list_any (same_ref w) ch.targeted ≡ false → by_variable v ch k c b w q ≡ []
untargeted v ch k c b w q is e = untargeted_opens_nothing v ch k c b w q is e

-- what is no variable of references that is present
pub unwalked : (v : Service) (ch : Chart) (k : ℕ) (c : Config) (b : Bases) (w : ObjRef) (q : Option ObjRef) → IsChart v ch → is_reference_in (present v c) w ≡ false → by_variable v ch k c b w q ≡ []
unwalked v ch k c b w None is e = refl
unwalked v ch k c b w (Some r) is e = sym (not_walked v ch k c b w r is (both (list_any (same_ref w) ch.targeted) e))
  where
    both : (a : Bool) → is_reference_in (present v c) w ≡ false → (a && is_reference_in (present v c) w) ≡ false
    both true e = e
    both false e = refl
