-- References under numbers: that at the first place of a list has number 1.
use Rattle.std.specs.Prelude.{◌≡◌, ◌≢◌, ℕ, suc, ◌-◌, ◌<◌, nat_eq, List, [], get_or, length, map}
use Rattle.mh_base.specs.declared.obj_ref.ObjRef.{ObjRef}
use Rattle.mh_model.specs.Reference.{group_ref, same_ref}

abbrev pub ref_at : List ObjRef → ℕ → ObjRef
ref_at rs x = get_or rs (x - 1) (group_ref [])

abbrev pub refs_at : List ObjRef → List ℕ → List ObjRef
refs_at rs xs = map (ref_at rs) xs

-- of all references this is under the number, and under no other one
pub record Tells (r : ObjRef) (rs : List ObjRef) (k : ℕ) : Type 0 where
  pub each : (x : ℕ) → x ≢ 0 → x < suc (length rs) → same_ref r (ref_at rs x) ≡ nat_eq k x
