-- What is granted from a place on, read off what stands there.
use Rattle.std.specs.Prelude.{◌≡◌, ◌+◌, ℕ, zero, suc, Bool, true, false, cond, if◌then◌else◌, List, [], ◌∷◌, drop, filter, map, slice_get, Option, Some, None, refl}
use Rattle.std.proofs.Common.{arith, ap, ◌∙◌}
use Rattle.mh_base.specs.declared.obj_ref.ObjRef.{ObjRef}
use Rattle.mh_model.specs.Reference.{same_key}
use Rattle.mh_layers.specs.declared.arrows.arrow.Held.{Held}
use Rattle.mh_layers.specs.Arrows.{held_by}

held_first : (r : ObjRef) (h : Held) (hs : List Held) → held_by (h ∷ hs) r ≡ (if same_key r h.by then h.at ∷ held_by hs r else held_by hs r)
held_first r h hs = by (same_key r h.by)
  where
    by : (b : Bool) → map (λ (x : Held). x.at) (cond b (h ∷ filter (λ (x : Held). same_key r x.by) hs) (filter (λ (x : Held). same_key r x.by) hs)) ≡ (if b then h.at ∷ held_by hs r else held_by hs r)
    by true = refl
    by false = refl

-- what stands there, if anything, and what is granted behind it
abbrev held_at : ObjRef → List Held → ℕ → Option Held → List ObjRef
held_at r hs n None = []
held_at r hs n (Some h) = if same_key r h.by then h.at ∷ held_by (drop (n + 1) hs) r else held_by (drop (n + 1) hs) r

pub held_there : (r : ObjRef) (hs : List Held) (n : ℕ) → held_by (drop n hs) r ≡ held_at r hs n (slice_get hs n)
held_there r [] zero = refl
held_there r [] (suc n) = refl
held_there r (h ∷ hs) zero = held_first r h hs
held_there r (h ∷ hs) (suc n) = held_there r hs n ∙ by (slice_get hs n)
  where
    next : (m : ℕ) → suc (m + 1) ≡ suc m + 1
    next m = omega arith

    by : (o : Option Held) → held_at r hs n o ≡ held_at r (h ∷ hs) (suc n) o
    by None = refl
    by (Some x) = ap (λ (m : ℕ). if same_key r x.by then x.at ∷ held_by (drop m (h ∷ hs)) r else held_by (drop m (h ∷ hs)) r) (next n)
