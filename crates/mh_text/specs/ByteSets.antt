-- The sets of bytes by their bits, as a table has them.
use Rattle.std.specs.Prelude.{ℕ, slice_index}
use Rattle.mh_text.specs.declared.lexing.ByteSet.{ByteSet}
use Rattle.mh_text.specs.declared.lexing.ByteSet.TheVariants as set
use Rattle.mh_text.specs.declared.lexing.TheConstants.{SETS}

-- the bit of a set
abbrev pub bit_of : ByteSet → ℕ
bit_of set.Letters = 1
bit_of set.Digits = 2
bit_of set.LettersAndDigits = 4
bit_of set.Text = 8
bit_of set.Quoted = 16

-- the bits of a byte
unfoldable pub bits_of : ℕ → ℕ
bits_of b = slice_index SETS b
