-- Laws of the spelling, over the definitions alone.
use Rattle.std.specs.Prelude.{◌≡◌, ℕ, true, List, [], Ok}
use Rattle.mh_group.specs.declared.written.Written.{Written}
use Rattle.mh_group.specs.Fit.{is_group}
use Rattle.mh_codec.specs.Tags.{Tags, IsTable, profile}
use Rattle.mh_codec.specs.TagLines.{read_table}
use Rattle.mh_codec.specs.Writable.{Spells}

-- by no table of tags octets spell two groups that the profile allows
abbrev pub SpellsOne : Type 0
SpellsOne = (tags : Tags) → IsTable tags → (octets : List ℕ) (g h : Written) → is_group g ≡ true → is_group h ≡ true → Spells tags octets g → Spells tags octets h → g ≡ h

-- the table of the profile is the one that no lines name
abbrev pub NoLinesNameProfile : Type 0
NoLinesNameProfile = read_table [] ≡ Ok profile
