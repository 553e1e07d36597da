-- What it means that octets spell a group by a table of tags, which is one that the notation can hold.
use Rattle.std.specs.Prelude.{◌≡◌, ℕ, ◌≤◌, true, List, length}
use Rattle.mh_base.specs.Limits.{largest_file}
use Rattle.mh_group.specs.declared.written.Written.{Written}
use Rattle.mh_group.specs.Fit.{is_group}
use Rattle.mh_group.specs.Holdable.{is_holdable}
use Rattle.mh_codec.specs.Tags.{Tags}
use Rattle.mh_codec.specs.Spelling.{group}

module _ (tags : Tags) where
  -- the octets spell the group, and nothing else
  unfoldable pub Spells : List ℕ → Written → Type 0
  Spells octets g = (octets ≡ group tags g) × (length octets ≤ largest_file) × (is_holdable g ≡ true)

  -- the octets spell no group that the tables allow
  abbrev pub SpellsNone : List ℕ → Type 0
  SpellsNone octets = (g : Written) → is_group g ≡ true → Spells octets g → ⊥

  -- the octets spell no group that the tables allow but this one
  abbrev pub SpellsNoOther : List ℕ → Written → Type 0
  SpellsNoOther octets g = (h : Written) → is_group h ≡ true → Spells octets h → h ≡ g
