-- The objects of one group under their numbers, as a table has them.
use Rattle.std.specs.Prelude.{◌≡◌, ℕ, zero, suc, nat_eq, Bool, true, false, not, if◌then◌else◌, List, [], ◌∷◌, map}
use Rattle.std.specs.List.{list_all}
use Rattle.mh_base.specs.declared.obj_ref.ObjRef.{ObjRef}
use Rattle.mh_model.specs.declared.object.Body.{Body}
use Rattle.mh_model.specs.declared.object.Fixed.{Fixed}
use Rattle.mh_model.specs.declared.object.Object.{Object}
use Rattle.mh_model.specs.Service.{fresh}

-- the objects, without their numbers
abbrev pub objects_of : List (ℕ × Object) → List Object
objects_of es = map (λ e. e.1) es

-- the reference to an object of the group
abbrev pub key_of : List ℕ → ℕ → ObjRef
key_of g n = record { group = g; number = n }

-- each object is of the group, and stands under its own number
abbrev pub IsKeyed : List ℕ → List (ℕ × Object) → Type 0
IsKeyed g [] = Unit {0}
IsKeyed g (e ∷ es) = (e.1.fixed.key ≡ key_of g e.0) × IsKeyed g es

-- the object with its body changed
abbrev pub with_body : (Fixed → Body → Body) → Object → Object
with_body f o = record o { body = f o.fixed o.body }

-- the entries with the body of the object under this number changed
abbrev pub changed_at : (Fixed → Body → Body) → ℕ → List (ℕ × Object) → List (ℕ × Object)
changed_at f n [] = []
changed_at f n (e ∷ es) = if nat_eq n e.0 then (e.0, with_body f e.1) ∷ es else e ∷ changed_at f n es

-- what stands before this place is not under the number, and what stands there is; or nothing is, and the place is
-- behind all
abbrev pub IsPlace : ℕ → List (ℕ × Object) → ℕ → Type 0
IsPlace n [] i = Unit {0}
IsPlace n (e ∷ es) zero = nat_eq n e.0 ≡ true
IsPlace n (e ∷ es) (suc i) = (nat_eq n e.0 ≡ false) × IsPlace n es i

-- nothing stands under the number
abbrev pub is_new : ℕ → List (ℕ × Object) → Bool
is_new n es = list_all (λ e. not (nat_eq n e.0)) es

-- the object of a part under its number
abbrev pub entry_of : Fixed → ℕ × Object
entry_of p = (p.key.number, fresh p)
