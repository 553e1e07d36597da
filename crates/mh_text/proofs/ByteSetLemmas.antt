-- The table of the sets of bytes is right: each byte has the bits of the sets that it is in.
use Rattle.std.proofs.Common.{◌≡◌, ◌<◌, ℕ, Bool, true, false, not, refl, ap, sym, ◌∙◌, arith}
use Rattle.std.specs.Prelude.{◌+◌, bit_and, nat_eq}
use Rattle.std.specs.List.{list_all, range_with_len}
use Rattle.std.proofs.lemmas.List.Folds.{list_all_at}
use Rattle.std.proofs.lemmas.List.FromFn.{get_or-range_with_len}
use Rattle.mh_text.specs.declared.lexing.ByteSet.{ByteSet}
use Rattle.mh_text.specs.declared.lexing.ByteSet.TheVariants as set
use Rattle.mh_text.specs.ByteSets.{bit_of, bits_of}
use Rattle.mh_text.specs.Lexing.{is_in}

-- what the table tells of a byte
abbrev told : ByteSet → ℕ → Bool
told s b = not (nat_eq (bit_and (bits_of b) (bit_of s)) 0)

abbrev same : Bool → Bool → Bool
same true b = b
same false b = not b

same_is : (a b : Bool) → same a b ≡ true → a ≡ b
same_is true true e = refl
same_is true false e = absurd cc
same_is false true e = absurd cc
same_is false false e = refl

-- the table tells of the byte what is said of the set
abbrev is_right : ByteSet → ℕ → Bool
is_right s b = same (told s b) (is_in s b)

all_right : (s : ByteSet) → list_all (is_right s) (range_with_len 0 256) ≡ true
unfolding bits_of
all_right set.Letters = refl
all_right set.Digits = refl
all_right set.LettersAndDigits = refl
all_right set.Text = refl
all_right set.Quoted = refl

one_right : (p : ℕ → Bool) → list_all p (range_with_len 0 256) ≡ true → (b : ℕ) → b < 256 → p b ≡ true
one_right p all b small = by (p b) refl
  where
    by : (t : Bool) → p b ≡ t → t ≡ true
    by true e = refl
    by false e =
        let plain : 0 + b ≡ b = omega arith in
        let there = get_or-range_with_len 0 256 b 0 small ∙ plain in
        sym (list_all_at p (range_with_len 0 256) b 0 small (ap p there ∙ e)) ∙ all

pub set_told : (s : ByteSet) (b : ℕ) → b < 256 → told s b ≡ is_in s b
set_told s b small = same_is (told s b) (is_in s b) (one_right (is_right s) (all_right s) b small)
