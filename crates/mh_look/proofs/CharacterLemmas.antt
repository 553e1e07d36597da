-- A character between quotation marks, and the bytes that it takes there.
use Rattle.std.specs.Prelude.{◌≡◌, ℕ, suc, ◌<◌, ◌≤◌, ◌≢◌, true, List, [], ◌∷◌, ◌++◌, length, Some, slice_index, encode_utf8, refl}
use Rattle.std.proofs.Common.{ap, ◌∙◌, sym, arith, ⊎_elim}
use Rattle.std.proofs.lemmas.Bool.{cases_eq, ne_eqb}
use Rattle.std.proofs.lemmas.Str.{char_from_byte}
use Rattle.bstr.specs.Utf8.{decoded, good}
use Rattle.bstr.proofs.lemmas.PieceLemmas.{size-bounds}
use Rattle.bstr.proofs.lemmas.EncodeLemmas.{decoded-encode}
use Rattle.mh_told.specs.Printing.{quoted}
use lib.Utf8.{scalar}

-- what is decoded is one character, which takes some of the bytes
pub decoded_size : (bs : List ℕ) (c : ℕ) → (decoded bs).char ≡ Some c → (0 < (decoded bs).size) × ((decoded bs).size ≤ length bs)
decoded_size [] c e = absurd cc
decoded_size (b ∷ bs) c e =
    let bounds = size-bounds (suc (length bs)) (slice_index (b ∷ bs) 0) (slice_index (b ∷ bs) 1) (slice_index (b ∷ bs) 2) (slice_index (b ∷ bs) 3) (omega arith) in
    (bounds.0, bounds.2)

pub decoded_front : (c : ℕ) (bs rest : List ℕ) → scalar c ≡ true → bs ≡ encode_utf8 c ++ rest → decoded bs ≡ good c (length (encode_utf8 c))
decoded_front c bs rest is e = ap decoded e ∙ decoded-encode c rest is

-- a character that needs no backslash
plain : (c : ℕ) → scalar c ≡ true → c ≢ 34 → c ≢ 92 → quoted c ≡ encode_utf8 c
plain c is mark slash = rw (ne_eqb c 34 mark, ne_eqb c 92 slash, is) refl

behind : (c : ℕ) (bs rest front : List ℕ) → bs ≡ quoted c ++ rest → quoted c ≡ front → bs ≡ front ++ rest
behind c bs rest front e same = e ∙ ap (λ (l : List ℕ). l ++ rest) same

first_plain : (c : ℕ) (bs rest : List ℕ) → scalar c ≡ true → bs ≡ quoted c ++ rest → c ≢ 34 → c ≢ 92 → slice_index bs 0 < 128 → 0 < length bs → c ≡ slice_index bs 0
first_plain c bs rest is e mark slash low some =
    char_from_byte bs rest c (behind c bs rest (encode_utf8 c) e (plain c is mark slash)) low some

-- what stands there, by the first byte
pub with_slash : (c : ℕ) (bs rest : List ℕ) → scalar c ≡ true → bs ≡ quoted c ++ rest → 0 < length bs → slice_index bs 0 ≡ 92 → (slice_index bs 1 ≡ c) × (length (quoted c) ≡ 2)
with_slash c bs rest is e some first =
    ⊎_elim
    (λ mark. (ap (λ (l : List ℕ). slice_index l 1) (behind c bs rest (92 ∷ 34 ∷ []) e (ap quoted mark)) ∙ sym mark, ap (λ (x : ℕ). length (quoted x)) mark))
    (λ mark. ⊎_elim
    (λ slash. (ap (λ (l : List ℕ). slice_index l 1) (behind c bs rest (92 ∷ 92 ∷ []) e (ap quoted slash)) ∙ sym slash, ap (λ (x : ℕ). length (quoted x)) slash))
    (λ slash. absurd (slash (first_plain c bs rest is e mark slash (omega arith) some ∙ first)))
    (cases_eq c 92))
    (cases_eq c 34)

pub no_mark : (c : ℕ) (bs rest : List ℕ) → scalar c ≡ true → bs ≡ quoted c ++ rest → 0 < length bs → slice_index bs 0 ≡ 34 → ⊥
no_mark c bs rest is e some first =
    ⊎_elim
    (λ mark. let other : slice_index bs 0 ≡ 92 = ap (λ (l : List ℕ). slice_index l 0) (behind c bs rest (92 ∷ 34 ∷ []) e (ap quoted mark)) in omega arith)
    (λ mark. ⊎_elim
    (λ slash. let other : slice_index bs 0 ≡ 92 = ap (λ (l : List ℕ). slice_index l 0) (behind c bs rest (92 ∷ 92 ∷ []) e (ap quoted slash)) in omega arith)
    (λ slash. mark (first_plain c bs rest is e mark slash (omega arith) some ∙ first))
    (cases_eq c 92))
    (cases_eq c 34)
