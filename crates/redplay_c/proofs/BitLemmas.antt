-- How large the number of some truth values is.
use Rattle.std.proofs.Common.{◌≡◌, ◌<◌, ◌≤◌, ◌+◌, ◌*◌, ◌^◌, ℕ, true, false, List, [], ◌∷◌, length, drop, arith, lit<, lit≤, if◌then◌else◌, Bool, ap, sym, subst}
use Rattle.std.proofs.Math.Nat.{pow-suc}
use Rattle.std.proofs.Math.Pow.{pow_mono}
use Rattle.std.proofs.lemmas.List.{length-drop}
use mir.Val.{bool_byte}
use Rattle.redplay_c.specs.Rows.{bits_of}

-- fewer than as many as there are bits for
bits_fit : (bs : List Bool) → bits_of bs < 2 ^ length bs
bits_fit [] = lit< tt
bits_fit (true ∷ bs) = omega (arith, bits_fit bs, pow-suc 2 (length bs))
bits_fit (false ∷ bs) = omega (arith, bits_fit bs, pow-suc 2 (length bs))

-- twice the number of the last of 36, and one, is a number of 64 bits
pub bits_double : (rows : List Bool) (at bits : ℕ) → length rows ≡ 36 → bits ≡ bits_of (drop at rows) → bits * 2 + 1 < 2 ^ 64
bits_double rows at bits all so =
    let short : length (drop at rows) ≤ 36 = omega (arith, length-drop at rows, all) in
    omega (arith, bits_fit (drop at rows), pow_mono {i = length (drop at rows)} {j = 36} short, so)

pub bit_small : (b : Bool) (n : ℕ) → n ≡ bool_byte b → n ≤ 1
bit_small true n is = omega (arith, is)
bit_small false n is = omega (arith, is)
