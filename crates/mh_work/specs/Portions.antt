-- The work list: what a contract sees of it, and the portions in which it is kept.
use Rattle.std.specs.Prelude.{◌≡◌, ℕ, ◌+◌, Bool, true, false, nat_lt, List, [], ◌∷◌, length, drop, slice_get, Option, Some, None}
use Rattle.std.specs.List.{flat_map, list_all}
use Rattle.mh_model.specs.declared.act.Act.{Act}
use Rattle.mh_model.specs.declared.item.Item.{Item}
use Rattle.mh_model.specs.declared.item.Item.TheVariants as item
use Rattle.mh_model.specs.Items.{acts}
use Rattle.mh_work.specs.declared.portion.Portion.{Portion}
use Rattle.mh_work.specs.declared.portion.Portion.TheVariants as portion
use Rattle.mh_work.specs.declared.portion.Front.{Front}
use Rattle.mh_work.specs.declared.portion.Front.TheVariants as front

-- the items, the first one in front, and for how many more batches there is room
pub record WorkList : Type 0 where
  pub items : List Item
  pub room : ℕ

-- what a portion still holds
abbrev pub left_of : Portion → List Item
left_of (portion.Acts effect next) = acts (drop next effect)
left_of (portion.One i) = i ∷ []

abbrev pub flat : List Portion → List Item
flat fs = flat_map left_of fs

-- a portion holds one item at least
abbrev pub is_live : Portion → Bool
is_live (portion.Acts effect next) = nat_lt next (length effect)
is_live (portion.One i) = true

abbrev pub AreLive : List Portion → Type 0
AreLive fs = list_all is_live fs ≡ true

-- Passing over the first item.

abbrev pub has_more : Portion → Bool
has_more (portion.Acts effect next) = nat_lt (next + 1) (length effect)
has_more (portion.One i) = false

abbrev pub passed : Portion → Portion
passed (portion.Acts effect next) = portion.Acts effect (next + 1)
passed (portion.One i) = portion.One i

abbrev pub goes_on : List Portion → Bool
goes_on [] = false
goes_on (f ∷ fs) = has_more f

abbrev pub passed_first : List Portion → List Portion
passed_first [] = []
passed_first (f ∷ fs) = passed f ∷ fs

-- What comes first, looked at without copying an action.

abbrev pub IsFront : Option Front → List Item → Type 0
IsFront None is = slice_get is 0 ≡ None
IsFront (Some (front.Act effect place)) is = (nat_lt place (length effect) ≡ true) × ((a : Act) → slice_get effect place ≡ Some a → slice_get is 0 ≡ Some (item.Act a))
IsFront (Some (front.Item i)) is = slice_get is 0 ≡ Some i
