-- The objects that wait for a file, as a list, as a test and by their places.
use Rattle.std.specs.Prelude.{◌≡◌, ℕ, ◌+◌, ◌||◌, ◌&&◌, Bool, true, false, cond, if◌then◌else◌, List, [], ◌∷◌, ◌++◌, filter, map, slice_get, Some, refl}
use Rattle.std.specs.List.{flat_map}
use Rattle.std.specs.Str.{bytes_eq}
use Rattle.std.proofs.Common.{ap, ◌∙◌, sym}
use Rattle.mh_base.specs.declared.obj_ref.ObjRef.{ObjRef}
use Rattle.mh_carousel.specs.Carried.{waiting_for}
use Rattle.mh_model.specs.declared.file.Wait.{Wait}
use Rattle.mh_model.specs.declared.object.Object.{Object}
use Rattle.mh_model.specs.Files.{waits_for}
use Rattle.mh_model.specs.Reference.{same_ref}
use Rattle.mh_model.specs.declared.event.Event.{Event}
use Rattle.mh_model.specs.Step.{content_event}
use Rattle.mh_store.specs.Places.{is_among, places_from}
use Rattle.mh_store.proofs.NamedLemmas.{told_from, told_by_places}
use Rattle.mh_machine.specs.Marks.{is_meant}
use Rattle.mh_machine.specs.Taking.{content_by}

among_waits : (name : List ℕ) (ws : List Wait) (r : ObjRef) → is_among (waiting_for name ws) r ≡ waits_for name ws r
among_waits name [] r = refl
among_waits name (w ∷ ws) r = by (bytes_eq w.name name) (same_ref r w.object) (among_waits name ws r)
  where
    by : (b a : Bool) → is_among (waiting_for name ws) r ≡ waits_for name ws r
        → is_among (map (λ (x : Wait). x.object) (cond b (w ∷ filter (λ x. bytes_eq x.name name) ws) (filter (λ x. bytes_eq x.name name) ws))) r ≡ ((same_ref r w.object && b) || waits_for name ws r)
    by true a below = ap (λ (t : Bool). same_ref r w.object || t) below ∙ ap (λ (t : Bool). t || waits_for name ws r) (sym (and_true (same_ref r w.object)))
      where
        and_true : (t : Bool) → (t && true) ≡ t
        and_true true = refl
        and_true false = refl
    by false a below = below ∙ ap (λ (t : Bool). t || waits_for name ws r) (sym (and_false (same_ref r w.object)))
      where
        and_false : (t : Bool) → (t && false) ≡ false
        and_false true = refl
        and_false false = refl

pub waiting_is : (rs : List ObjRef) (name : List ℕ) (ws : List Wait) → rs ≡ waiting_for name ws → is_among rs ≡ waits_for name ws
waiting_is rs name ws same = ap is_among same ∙ (λ i r. among_waits name ws r i)

pub none_meant : (os : List Object) → [] ≡ filter (is_meant []) os
none_meant [] = refl
none_meant (o ∷ os) = none_meant os

told_events : (n : ℕ) (rs : List ObjRef) (os : List Object) → told_from n (λ k o. content_by o) (is_among rs) os ≡ map content_event (filter (is_meant rs) os)
told_events n rs [] = refl
told_events n rs (o ∷ os) = by (is_meant rs o) (told_events (n + 1) rs os)
  where
    by : (b : Bool) → told_from (n + 1) (λ k x. content_by x) (is_among rs) os ≡ map content_event (filter (is_meant rs) os)
        → (if b then content_by (Some o) else []) ++ told_from (n + 1) (λ k x. content_by x) (is_among rs) os ≡ map content_event (cond b (o ∷ filter (is_meant rs) os) (filter (is_meant rs) os))
    by true behind = ap (λ (es : List Event). content_event o ∷ es) behind
    by false behind = behind

pub events_by_places : (rs : List ObjRef) (os : List Object) (places : List ℕ) (made : List Event) → made ≡ [] → places ≡ places_from 0 (is_among rs) os → made ++ flat_map (λ k. content_by (slice_get os k)) places ≡ map content_event (filter (is_meant rs) os)
events_by_places rs os places made none found =
    (λ i. none i ++ flat_map (λ k. content_by (slice_get os k)) (found i))
    ∙ told_by_places (λ k o. content_by o) (is_among rs) os [] 0 refl
    ∙ told_events 0 rs os
