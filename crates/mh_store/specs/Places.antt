-- The places of the objects that are named by their references.
use Rattle.std.specs.Prelude.{ℕ, ◌+◌, nat_eq, Bool, if◌then◌else◌, List, [], ◌∷◌, ◌++◌}
use Rattle.std.specs.List.{list_any}
use Rattle.mh_base.specs.declared.obj_ref.ObjRef.{ObjRef}
use Rattle.mh_model.specs.declared.object.Object.{Object}
use Rattle.mh_model.specs.Reference.{same_ref}

-- it is one of these
abbrev pub is_among : List ObjRef → ObjRef → Bool
is_among rs r = list_any (same_ref r) rs

-- the places of the objects that are meant, in rising order; the first object stands at this place
abbrev pub places_from : ℕ → (ObjRef → Bool) → List Object → List ℕ
places_from n is [] = []
places_from n is (o ∷ os) = (if is o.fixed.key then n ∷ [] else []) ++ places_from (n + 1) is os

-- that of the object with this reference
abbrev pub places_at : ℕ → List Object → ObjRef → List ℕ
places_at n os r = places_from n (λ k. same_ref k r) os

-- that of the object under this number
abbrev pub places_under : ℕ → ℕ → List (ℕ × Object) → List ℕ
places_under n k [] = []
places_under n k (e ∷ es) = (if nat_eq k e.0 then n ∷ [] else []) ++ places_under (n + 1) k es
