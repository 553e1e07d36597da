-- What is derived is in every solution.
use Rattle.std.specs.Prelude.{◌≡◌, Some, refl}
use Rattle.std.specs.List.{Contains}
use Rattle.std.proofs.Common.{subst}
use Rattle.mh_base.specs.declared.obj_ref.ObjRef.{ObjRef}
use Rattle.mh_model.specs.declared.act.Act.{Act}
use Rattle.mh_model.specs.declared.config.Config.{Config}
use Rattle.mh_model.specs.Configuration.{present}
use Rattle.mh_model.specs.Service.{Service, fresh}
use Rattle.mh_laws.specs.Active.{active_actions, leads_to}
use Rattle.mh_laws.specs.Flow.{Flow, IsHeld, IsLed, IsOpen, IsOpenIf, IsSolution, Keeps, Passes}
use Rattle.mh_laws.specs.Least.{Reached, Held, Comes, Hands, start, named, referred, written, read, original_value, original_item, given, filled, led, passed, IsIn, DerivedIsInEach}
use Rattle.mh_laws.proofs.EachLemmas.{each_contained}

-- the flow goes on where an active action leads
opened : (v : Service) (w : Flow) → IsSolution v w → (c : Config) (a : Act) (r : ObjRef) (d : Config) → IsIn v w (Reached c) → Contains (active_actions (present v c)) a → IsIn v w (Comes c a.target r) → leads_to v c a.name r ≡ Some d → IsOpen v w c d
opened v w k c a r d at among comes leads =
    subst (IsOpenIf v w c) leads (each_contained (IsLed v w c) (active_actions (present v c)) a (k.leads c at) among r comes)

pub derived_in_each : DerivedIsInEach
derived_in_each v w k x (start) = k.start
derived_in_each v w k x (named c r) = refl
derived_in_each v w k x (referred c y q is h) = (is, derived_in_each v w k (Held c y q) h)
derived_in_each v w k x (written c q) = refl
derived_in_each v w k x (read c y q u is h) = (is, derived_in_each v w k (Held c y q) h)
derived_in_each v w k x (original_value c p q at among is e) =
    (each_contained (λ p. IsHeld (w.sets c) (fresh p)) (present v c) p (k.original c (derived_in_each v w k (Reached c) at)) among).value is q e
derived_in_each v w k x (original_item c p q at among is e) =
    (each_contained (λ p. IsHeld (w.sets c) (fresh p)) (present v c) p (k.original c (derived_in_each v w k (Reached c) at)) among).items is q e
derived_in_each v w k x (given c a n y r q at among says_it stands comes takes reads hands) =
    (each_contained (Keeps (w.sets c) (present v c)) (active_actions (present v c)) a (k.keeps c (derived_in_each v w k (Reached c) at)) among).given n y r q says_it stands
    (derived_in_each v w k (Comes c a.target r) comes) takes reads (derived_in_each v w k (Hands c y q) hands)
derived_in_each v w k x (filled c a r y q at among fill comes list receives is h) =
    (each_contained (Keeps (w.sets c) (present v c)) (active_actions (present v c)) a (k.keeps c (derived_in_each v w k (Reached c) at)) among).filled r y q fill
    (derived_in_each v w k (Comes c a.target r) comes) list receives is (derived_in_each v w k (Held c r q) h)
derived_in_each v w k x (led c a r d at among comes leads) =
    (opened v w k c a r d (derived_in_each v w k (Reached c) at) among (derived_in_each v w k (Comes c a.target r) comes) leads).0
derived_in_each v w k x (passed c a r d g p q at among comes leads scene part h) =
    subst (Passes v w c d) scene (opened v w k c a r d (derived_in_each v w k (Reached c) at) among (derived_in_each v w k (Comes c a.target r) comes) leads).1
    p part q (derived_in_each v w k (Held c p.key q) h)
