-- Marks of several objects at once.
use Rattle.std.specs.Prelude.{◌≡◌, ◌<◌, ℕ, Bool, true, false, List, [], ◌∷◌}
use Rattle.std.specs.Str.{bytes_eq}
use Rattle.mh_base.specs.declared.obj_ref.ObjRef.{ObjRef}
use Rattle.mh_display.specs.Surface.{is_stale}
use Rattle.mh_model.specs.declared.object.Object.{Object}
use Rattle.mh_model.specs.Looks.{Paint, nothing}
use Rattle.mh_model.specs.Picture.{paint_at}
use Rattle.mh_store.specs.Places.{is_among}

-- it is the object of one of these
abbrev pub is_meant : List ObjRef → Object → Bool
is_meant rs o = is_among rs o.fixed.key

-- a cell is stale now where it was, and wherever one of these paints something
abbrev pub SpoilsEach : List Object → List ObjRef → List ℕ → List ℕ → Type 0
SpoilsEach os rs before after =
    (c : ℕ) → c < 2160 → is_stale after c ≡ false
    → (is_stale before c ≡ false) × ((r : ObjRef) → is_among rs r ≡ true → paint_at os c r ≡ nothing)

-- of these references none to another group than this one paints anything
abbrev pub OthersPaintNothing : (ObjRef → Paint) → List ℕ → List ObjRef → Type 0
OthersPaintNothing f g [] = Unit {0}
OthersPaintNothing f g (r ∷ rs) = (bytes_eq r.group g ≡ false → f r ≡ nothing) × OthersPaintNothing f g rs

-- a cell is stale now where it was, and wherever one of these that is of another group than this one paints something
abbrev pub SpoilsOthers : List Object → List ℕ → List ObjRef → List ℕ → List ℕ → Type 0
SpoilsOthers os g rs before after =
    (c : ℕ) → c < 2160 → is_stale after c ≡ false
    → (is_stale before c ≡ false) × OthersPaintNothing (paint_at os c) g rs

-- a cell is stale now where it was, and all are unless this holds
abbrev pub SpoilsUnless : Bool → List ℕ → List ℕ → Type 0
SpoilsUnless b before after =
    (c : ℕ) → c < 2160 → is_stale after c ≡ false → (is_stale before c ≡ false) × (b ≡ true)
