-- The members of a short list.
use Rattle.std.specs.Prelude.{List, []}
use Rattle.mh_actions.specs.declared.few.Kept.{Kept}
use Rattle.mh_actions.specs.declared.few.Kept.TheVariants as kept

module _ {T : Type 0} where
  abbrev pub members : Kept T → List T
  members kept.None = []
  members (kept.One xs) = xs
  members (kept.Two xs) = xs
  members (kept.More v) = v.items
