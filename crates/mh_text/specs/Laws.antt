-- Laws that join reading, spelling and printing, over the definitions alone.
use Rattle.std.specs.Prelude.{◌≡◌, ℕ, true, false, List, Ok}
use Rattle.mh_group.specs.declared.written.Written.{Written}
use Rattle.mh_group.specs.Fit.{is_group}
use Rattle.mh_text.specs.Spelling.{Spells}
use Rattle.mh_text.specs.Reading.{read}
use Rattle.mh_text.specs.Printed.{printed, passes_limit}

-- the printed form of a group, where it passes no limit, is read as that group
abbrev pub ReadsPrinted : Type 0
ReadsPrinted = (g : Written) → is_group g ≡ true → passes_limit g ≡ false → read (printed g) ≡ Ok g

-- no text spells two groups that the tables allow
abbrev pub SpellsOne : Type 0
SpellsOne = (bytes : List ℕ) (g h : Written) → is_group g ≡ true → is_group h ≡ true → Spells bytes g → Spells bytes h → g ≡ h
