use Rattle.std.specs.Prelude.{◌≡◌, Bool, true, false, ◌&&◌, ◌||◌, List, [], ◌∷◌}
use Rattle.std.specs.List.{list_any}
use Rattle.std.proofs.Common.{inl, inr, refl, sym, ◌∙◌}
use Rattle.mh_base.specs.declared.obj_ref.ObjRef.{ObjRef}
use Rattle.mh_model.specs.declared.event.Event.{Event}
use Rattle.mh_model.specs.declared.key.Key.TheVariants as key
use Rattle.mh_model.specs.declared.object.Object.{Object}
use Rattle.mh_model.specs.Receiver.{anything}
use Rattle.mh_model.specs.Reference.{group_ref, same_ref}
use Rattle.mh_model.specs.State.{all}
use Rattle.mh_model.specs.Step.{key_event}
use Rattle.mh_model.proofs.ServiceLemmas.{same_ref-same}
use Rattle.mh_laws.specs.Each.{Among}
use Rattle.mh_laws.specs.ExampleFirst.{s, service, settled, steps}
use Rattle.mh_laws.specs.Headline.{begun_with}
use Rattle.mh_laws.proofs.ReceiverLemmas.{run_alone}
use Rattle.mh_never.specs.ExampleFiring.{eleven}
use Rattle.mh_never.specs.Firing.{IsUnput, fires}
use Rattle.mh_never.proofs.example.fires_first.Goals as goal

none_fired : (r : ObjRef) (e : Event) (os : List Object) → ((o : Object) → Among os o → o.fixed.key ≡ r → fires e o ≡ false) → list_any (λ (o : Object). same_ref o.fixed.key r && fires e o) os ≡ false
none_fired r e [] h = refl
none_fired r e (o ∷ os) h = by (same_ref o.fixed.key r) refl (none_fired r e os (λ x more is. h x (inr more) is))
  where
    by : (b : Bool) → same_ref o.fixed.key r ≡ b → list_any (λ (x : Object). same_ref x.fixed.key r && fires e x) os ≡ false → (b && fires e o || list_any (λ (x : Object). same_ref x.fixed.key r && fires e x) os) ≡ false
    by true same none = both (fires e o) _ (h o (inl refl) (same_ref-same o.fixed.key r same)) none
      where
        both : (a b : Bool) → a ≡ false → b ≡ false → (a || b) ≡ false
        both false b e k = k
        both true b e k = absurd cc
    by false same none = none

is_fired : list_any (λ (o : Object). same_ref o.fixed.key eleven && fires (key_event key.Red (group_ref s)) o) (all settled.objects) ≡ true
unfolding settled
is_fired = refl

pub returns : goal.returns
unfolding settled
returns c = λ h. let u : IsUnput eleven settled = h (steps 11) settled (run_alone anything (steps 11) (begun_with service 60000 [])) in
    sym (none_fired eleven (key_event key.Red (group_ref s)) (all settled.objects) (u.keys key.Red s refl refl)) ∙ is_fired
