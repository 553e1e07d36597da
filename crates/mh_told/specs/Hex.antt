-- The table of the digits of a byte.
use Rattle.std.specs.Prelude.{ℕ, ◌+◌, ◌*◌, List, [], ◌∷◌, slice_index}
use Rattle.mh_told.specs.declared.line.TheConstants.{DIGITS}

-- the byte of the table at a place
unfoldable pub digit_at : ℕ → ℕ
digit_at k = slice_index DIGITS k
