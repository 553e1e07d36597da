-- A text that is brought to several objects of a group: objects that are made, and then put at their places.
use Rattle.std.specs.Prelude.{◌≡◌, ℕ, ◌+◌, Bool, if◌then◌else◌, List, [], ◌∷◌, ◌++◌, map, slice_set, Option, Some, None}
use Rattle.indexmap.specs.IndexMap.{set_value_at}
use Rattle.mh_base.specs.declared.obj_ref.ObjRef.{ObjRef}
use Rattle.mh_model.specs.declared.object.Object.{Object}
use Rattle.mh_model.specs.Bodies.{brought}
use Rattle.mh_store.specs.declared.ready.Ready.{Ready}

-- the object with this text
abbrev pub with_brought : List ℕ → Object → Object
with_brought text o = record o { body = brought text o.body }

-- the object, which is at this place, with the text that is brought to it, if it is
abbrev pub ready_at : ℕ → (ObjRef → Bool) → List ℕ → Object → List Ready
ready_at n is text o = if is o.fixed.key then record { place = n; kept = with_brought text o } ∷ [] else []

-- the one that was found at this place, with the text
abbrev pub found_ready : ℕ → List ℕ → Option Object → List Ready
found_ready n text None = []
found_ready n text (Some o) = record { place = n; kept = with_brought text o } ∷ []

-- those among these objects, the first of which is at this place
abbrev pub ready_from : ℕ → (ObjRef → Bool) → List ℕ → List Object → List Ready
ready_from n is text [] = []
ready_from n is text (o ∷ os) = ready_at n is text o ++ ready_from (n + 1) is text os

-- they are put at their places, one after another

abbrev pub all_put : List Ready → List Object → List Object
all_put [] os = os
all_put (r ∷ rs) os = all_put rs (slice_set os r.place r.kept)

abbrev pub entries_put : List Ready → List (ℕ × Object) → List (ℕ × Object)
entries_put [] es = es
entries_put (r ∷ rs) es = entries_put rs (set_value_at es r.place r.kept)

-- the references of the objects
abbrev pub keys_of : List Object → List ObjRef
keys_of os = map (λ o. o.fixed.key) os

-- each has the reference that stands at its place
abbrev pub AreOwn : List Ready → List ObjRef → Type 0
AreOwn [] ks = Unit {0}
AreOwn (r ∷ rs) ks = (slice_set ks r.place r.kept.fixed.key ≡ ks) × AreOwn rs ks
