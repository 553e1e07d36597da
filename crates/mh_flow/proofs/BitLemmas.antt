-- Rows of bits in words.
use Rattle.std.specs.Prelude.{◌≡◌, ◌⊎◌, ◌<◌, ◌≤◌, ℕ, zero, suc, ◌+◌, ◌-◌, ◌*◌, ◌/◌, ◌%◌, ◌^◌, ◌==◌, ◌&&◌, ◌||◌, not, min, max, nat_eq, nat_lt, Bool, true, false, List, [], ◌∷◌, ◌++◌, length, drop, slice_set, replicate, bit_and, bit_or, refl}
use Rattle.std.specs.List.{slice_index}
use Rattle.std.specs.Int.{bit_at, bit_not}
use Rattle.std.proofs.Common.{arith, inl, inr, ap, ◌∙◌, sym, subst, w64, ◌≢◌, append-nil}
use Rattle.std.proofs.lemmas.List.{append_assoc, at_drop_more}
use Rattle.std.proofs.Math.ListN.{drop_of_length-le}
use Rattle.mh_flow.proofs.RowLemmas.{found_bit}
use Rattle.std.proofs.lemmas.Bool.Decides.{nat_tests}
use Rattle.std.proofs.lemmas.Nat.Bits.{bit_at-zero, bit_at-lt, bit_at_and, bit_at_or, bit_at_not}
use Rattle.mh_flow.specs.Membership.{IsNew}
use Rattle.mh_flow.specs.Rows.{is_at, is_bit, bits_from, in_word, laid, places_from, IsWord, HasPut}

pub bits_length : (ws : List ℕ) (i n : ℕ) → length (bits_from ws i n) ≡ n
bits_length ws i zero = refl
bits_length ws i (suc n) = ap suc (bits_length ws (suc i) n)

pub bits_at : (ws : List ℕ) (i n q : ℕ) → q < n → is_at (bits_from ws i n) q ≡ is_bit ws (i + q)
bits_at ws i zero q less = absurd (omega (arith, less))
bits_at ws i (suc n) zero less = let same : i ≡ i + 0 = omega arith in ap (λ (x : ℕ). is_bit ws x) same
bits_at ws i (suc n) (suc q) less =
    let same : suc i + q ≡ i + suc q = omega arith in
    bits_at ws (suc i) n q (omega (arith, less)) ∙ ap (λ (x : ℕ). is_bit ws x) same

pub bits_past : (ws : List ℕ) (i n q : ℕ) → n ≤ q → is_at (bits_from ws i n) q ≡ false
bits_past ws i zero q less = refl
bits_past ws i (suc n) zero less = absurd (omega (arith, less))
bits_past ws i (suc n) (suc q) less = bits_past ws (suc i) n q (omega (arith, less))

-- words of which no bit is set

no_word : (n j : ℕ) → slice_index (replicate n 0) j ≡ 0
no_word zero j = refl
no_word (suc n) zero = refl
no_word (suc n) (suc j) = no_word n j

no_bit : (n q : ℕ) → is_bit (replicate n 0) q ≡ false
no_bit n q = ap (λ (w : ℕ). bit_at w (q % 64) == 1) (no_word n (q / 64)) ∙ ap (λ (b : ℕ). b == 1) (bit_at-zero (q % 64))

pub no_bits_set : (n i w : ℕ) → bits_from (replicate n 0) i w ≡ replicate w false
no_bits_set n i zero = refl
no_bits_set n i (suc w) = ap (λ (b : Bool). b ∷ bits_from (replicate n 0) (suc i) w) (no_bit n i) ∙ ap (λ (t : List Bool). false ∷ t) (no_bits_set n (suc i) w)

-- the bits of a word that are set

word_same : (ws : List ℕ) (j w : ℕ) → j < length ws → slice_index (slice_set ws j w) j ≡ w
word_same [] j w less = absurd (omega (arith, less))
word_same (x ∷ ws) zero w less = refl
word_same (x ∷ ws) (suc j) w less = word_same ws j w (omega (arith, less))

word_cases : (ws : List ℕ) (j w k : ℕ) → (j ≡ k) ⊎ (slice_index (slice_set ws j w) k ≡ slice_index ws k)
word_cases [] j w k = inr refl
word_cases (x ∷ ws) zero w zero = inl refl
word_cases (x ∷ ws) zero w (suc k) = inr refl
word_cases (x ∷ ws) (suc j) w zero = inr refl
word_cases (x ∷ ws) (suc j) w (suc k) = by (word_cases ws j w k)
  where
    by : (j ≡ k) ⊎ (slice_index (slice_set ws j w) k ≡ slice_index ws k) → (suc j ≡ suc k) ⊎ (slice_index (slice_set ws j w) k ≡ slice_index ws k)
    by (inl e) = inl (ap suc e)
    by (inr e) = inr e

words_same : (ws : List ℕ) (j w : ℕ) → length (slice_set ws j w) ≡ length ws
words_same [] j w = refl
words_same (x ∷ ws) zero w = refl
words_same (x ∷ ws) (suc j) w = ap suc (words_same ws j w)

largest : (x y : ℕ) → x < 2 → y < 2 → (max x y == 1) ≡ ((x == 1) || (y == 1))
largest zero zero f g = refl
largest zero (suc zero) f g = refl
largest zero (suc (suc y)) f g = absurd (omega (arith, g))
largest (suc zero) zero f g = refl
largest (suc zero) (suc zero) f g = refl
largest (suc zero) (suc (suc y)) f g = absurd (omega (arith, g))
largest (suc (suc x)) y f g = absurd (omega (arith, f))

or_bit : (a b k : ℕ) → (bit_at (bit_or a b) k == 1) ≡ ((bit_at a k == 1) || (bit_at b k == 1))
or_bit a b k = ap (λ (n : ℕ). n == 1) (bit_at_or a b k) ∙ largest (bit_at a k) (bit_at b k) (bit_at-lt a k) (bit_at-lt b k)

least_not : (x y : ℕ) → x < 2 → y < 2 → (min x (1 - y) == 1) ≡ ((x == 1) && not (y == 1))
least_not zero zero f g = refl
least_not zero (suc zero) f g = refl
least_not zero (suc (suc y)) f g = absurd (omega (arith, g))
least_not (suc zero) zero f g = refl
least_not (suc zero) (suc zero) f g = refl
least_not (suc zero) (suc (suc y)) f g = absurd (omega (arith, g))
least_not (suc (suc x)) y f g = absurd (omega (arith, f))

pub without_bits : (bits known : ℕ) → known < 2 ^ 64 → IsNew bits known (bit_and bits (bit_not w64 known))
without_bits bits known small k inside =
    ap (λ (n : ℕ). n == 1) (bit_at_and bits (bit_not w64 known) k ∙ ap (λ (n : ℕ). min (bit_at bits k) n) (bit_at_not w64 known k small inside))
    ∙ least_not (bit_at bits k) (bit_at known k) (bit_at-lt bits k) (bit_at-lt known k)

or_none : (a b : Bool) → b ≡ false → a ≡ (a || b)
or_none true b e = refl
or_none false b e = sym e

there : (at bits q : ℕ) → q / 64 ≡ at → in_word at bits q ≡ (bit_at bits (q % 64) == 1)
there at bits q e =
    let is : nat_eq (q / 64) at ≡ true = grind (arith, nat_tests, e) in
    ap (λ (b : Bool). b && (bit_at bits (q % 64) == 1)) is

pub elsewhere : (at bits q : ℕ) → q / 64 ≢ at → in_word at bits q ≡ false
elsewhere at bits q other =
    let is : nat_eq (q / 64) at ≡ false = apart (nat_eq (q / 64) at) refl in
    ap (λ (b : Bool). b && (bit_at bits (q % 64) == 1)) is
  where
    apart : (b : Bool) → nat_eq (q / 64) at ≡ b → nat_eq (q / 64) at ≡ false
    apart true e = absurd (other (grind (arith, nat_tests, e)))
    apart false e = e

pub words_put : (ws : List ℕ) (at bits w : ℕ) → at < length ws → w ≡ slice_index ws at
    → HasPut at bits (bits_from ws 0 (64 * length ws)) (bits_from (slice_set ws at (bit_or w bits)) 0 (64 * length (slice_set ws at (bit_or w bits))))
words_put ws at bits w within is = (bits_length new 0 (64 * length new) ∙ same ∙ sym (bits_length ws 0 (64 * length ws)), set)
  where
    new : List ℕ
    new = slice_set ws at (bit_or w bits)

    same : 64 * length new ≡ 64 * length ws
    same = ap (λ (n : ℕ). 64 * n) (words_same ws at (bit_or w bits))

    here : (q : ℕ) → q / 64 ≡ at → is_bit new q ≡ (is_bit ws q || in_word at bits q)
    here q e =
        ap (λ (j : ℕ). bit_at (slice_index new j) (q % 64) == 1) e
        ∙ ap (λ (x : ℕ). bit_at x (q % 64) == 1) (word_same ws at (bit_or w bits) within)
        ∙ or_bit w bits (q % 64)
        ∙ (λ i. (bit_at (is i) (q % 64) == 1) || sym (there at bits q e) i)
        ∙ ap (λ (j : ℕ). (bit_at (slice_index ws j) (q % 64) == 1) || in_word at bits q) (sym e)

    by : (q : ℕ) → (b : Bool) → nat_eq (q / 64) at ≡ b → is_bit new q ≡ (is_bit ws q || in_word at bits q)
    by q true e = here q (grind (arith, nat_tests, e))
    by q false e = beside (word_cases ws at (bit_or w bits) (q / 64))
      where
        other : q / 64 ≢ at
        other f = absurd (grind (arith, nat_tests, e, f))

        beside : (at ≡ q / 64) ⊎ (slice_index new (q / 64) ≡ slice_index ws (q / 64)) → is_bit new q ≡ (is_bit ws q || in_word at bits q)
        beside (inl f) = absurd (other (sym f))
        beside (inr f) = ap (λ (x : ℕ). bit_at x (q % 64) == 1) f ∙ or_none (is_bit ws q) (in_word at bits q) (elsewhere at bits q other)

    inside : (q : ℕ) → (b : Bool) → nat_lt q (64 * length ws) ≡ b → is_at (bits_from new 0 (64 * length new)) q ≡ (is_at (bits_from ws 0 (64 * length ws)) q || in_word at bits q)
    inside q true e =
        let less : q < 64 * length ws = grind (arith, nat_tests, e) in
        let zero_more : 0 + q ≡ q = omega arith in
        bits_at new 0 (64 * length new) q (omega (arith, less, same)) ∙ ap (λ (x : ℕ). is_bit new x) zero_more
        ∙ by q (nat_eq (q / 64) at) refl
        ∙ ap (λ (b : Bool). b || in_word at bits q) (ap (λ (x : ℕ). is_bit ws x) (sym zero_more) ∙ sym (bits_at ws 0 (64 * length ws) q less))
    inside q false e =
        let past : 64 * length ws ≤ q = grind (arith, nat_tests, e) in
        let none = elsewhere at bits q (λ f. omega (arith, past, f, within)) in
        bits_past new 0 (64 * length new) q (omega (arith, past, same)) ∙ sym none
        ∙ ap (λ (b : Bool). b || in_word at bits q) (sym (bits_past ws 0 (64 * length ws) q past))

    set : (q : ℕ) → is_at (bits_from new 0 (64 * length new)) q ≡ (is_at (bits_from ws 0 (64 * length ws)) q || in_word at bits q)
    set q = inside q (nat_lt q (64 * length ws)) refl

-- a word that is read

pub word_there : (ws : List ℕ) (at : ℕ) → at < length ws → IsWord (bits_from ws 0 (64 * length ws)) at (slice_index ws at)
word_there ws at within k small =
    let less : 64 * at + k < 64 * length ws = omega (arith, within, small) in
    let start : 0 + (64 * at + k) ≡ 64 * at + k = omega arith in
    let quotient : (64 * at + k) / 64 ≡ at = omega (arith, small) in
    let rest : (64 * at + k) % 64 ≡ k = omega (arith, small) in
    bits_at ws 0 (64 * length ws) (64 * at + k) less ∙ ap (λ (x : ℕ). is_bit ws x) start
    ∙ ap (λ (j : ℕ). bit_at (slice_index ws j) ((64 * at + k) % 64) == 1) quotient
    ∙ ap (λ (j : ℕ). bit_at (slice_index ws at) j == 1) rest

pub word_past : (ws : List ℕ) (at : ℕ) → length ws ≤ at → IsWord (bits_from ws 0 (64 * length ws)) at 0
word_past ws at past k small =
    bits_past ws 0 (64 * length ws) (64 * at + k) (omega (arith, past)) ∙ sym (ap (λ (b : ℕ). b == 1) (bit_at-zero k))

-- a row that is laid out, and one that is

pub no_bits_laid : (bs : List Bool) (old new : List ℕ) (n : ℕ) → bits_from old 0 (64 * length old) ≡ bs → length old ≡ 0 → new ≡ old ++ replicate n 0
    → bits_from new 0 (64 * length new) ≡ laid (64 * n) bs
no_bits_laid bs [] new n same empty is =
    ap (λ (ws : List ℕ). bits_from ws 0 (64 * length ws)) is
    ∙ ap (λ (m : ℕ). bits_from (replicate n 0) 0 (64 * m)) (zeros_length n)
    ∙ no_bits_set n 0 (64 * n) ∙ ap (λ (t : List Bool). laid (64 * n) t) same
  where
    zeros_length : (n : ℕ) → length {A = ℕ} (replicate n 0) ≡ n
    zeros_length zero = refl
    zeros_length (suc n) = ap suc (zeros_length n)
no_bits_laid bs (x ∷ old) new n same empty is = absurd (omega (arith, empty))

pub laid_lent : (bs : List Bool) (ws : List ℕ) (w : ℕ) → bits_from ws 0 (64 * length ws) ≡ bs → (length ws == 0) ≡ false → bs ≡ laid w bs
laid_lent bs [] w same some = absurd cc
laid_lent [] (x ∷ ws) w same some = let wide = sym (bits_length (x ∷ ws) 0 (64 * length (x ∷ ws))) ∙ ap (λ (t : List Bool). length t) same in absurd (omega (arith, wide))
laid_lent (b ∷ bs) (x ∷ ws) w same some = refl

-- what is listed of a row

pub place_found : (bs : List Bool) (i : ℕ) (xs : List ℕ) → i < length bs → is_at bs i ≡ true → (xs ++ i ∷ []) ++ places_from (i + 1) (drop (i + 1) bs) ≡ xs ++ places_from i (drop i bs)
place_found bs i xs less e =
    let next : i + 1 ≡ suc i = omega arith in
    append_assoc xs (i ∷ []) (places_from (i + 1) (drop (i + 1) bs))
    ∙ ap (λ (n : ℕ). xs ++ i ∷ places_from n (drop (i + 1) bs)) next
    ∙ ap (λ (b : Bool). xs ++ places_from i (b ∷ drop (i + 1) bs)) (sym e ∙ sym (found_bit bs i true less))
    ∙ sym (at_drop_more (λ (t : List Bool). xs ++ places_from i t) bs i true less)

pub place_none : (bs : List Bool) (i : ℕ) (xs : List ℕ) → i < length bs → is_at bs i ≡ false → xs ++ places_from (i + 1) (drop (i + 1) bs) ≡ xs ++ places_from i (drop i bs)
place_none bs i xs less e =
    let next : i + 1 ≡ suc i = omega arith in
    ap (λ (n : ℕ). xs ++ places_from n (drop (i + 1) bs)) next
    ∙ ap (λ (b : Bool). xs ++ places_from i (b ∷ drop (i + 1) bs)) (sym e ∙ sym (found_bit bs i true less))
    ∙ sym (at_drop_more (λ (t : List Bool). xs ++ places_from i t) bs i true less)

pub places_end : (bs : List Bool) (i : ℕ) (xs : List ℕ) → length bs ≤ i → xs ++ places_from i (drop i bs) ≡ xs
places_end bs i xs enough = ap (λ (t : List Bool). xs ++ places_from i t) (drop_of_length-le bs enough) ∙ append-nil xs

-- a row that is lent is the bits of its words

pub lent_length : (bs : List Bool) (ws : List ℕ) (n : ℕ) → bits_from ws 0 n ≡ bs → length bs ≡ n
lent_length bs ws n same = ap (λ (t : List Bool). length t) (sym same) ∙ bits_length ws 0 n

-- a bit of a word that is looked at

next_place : (at bit : ℕ) → 64 * at + bit + 1 ≡ 64 * at + (bit + 1)
next_place at bit = omega arith

pub bit_found : (bs : List Bool) (at bit w : ℕ) (xs : List ℕ) → 64 * at + 64 ≤ length bs → bit < 64 → IsWord bs at w → (bit_at w bit == 1) ≡ true
    → (xs ++ (64 * at + bit) ∷ []) ++ places_from (64 * at + (bit + 1)) (drop (64 * at + (bit + 1)) bs) ≡ xs ++ places_from (64 * at + bit) (drop (64 * at + bit) bs)
bit_found bs at bit w xs within small is e =
    ap (λ (n : ℕ). (xs ++ (64 * at + bit) ∷ []) ++ places_from n (drop n bs)) (sym (next_place at bit))
    ∙ place_found bs (64 * at + bit) xs (omega (arith, within, small)) (is bit small ∙ e)

pub bit_none : (bs : List Bool) (at bit w : ℕ) (xs : List ℕ) → 64 * at + 64 ≤ length bs → bit < 64 → IsWord bs at w → (bit_at w bit == 1) ≡ false
    → xs ++ places_from (64 * at + (bit + 1)) (drop (64 * at + (bit + 1)) bs) ≡ xs ++ places_from (64 * at + bit) (drop (64 * at + bit) bs)
bit_none bs at bit w xs within small is e =
    ap (λ (n : ℕ). xs ++ places_from n (drop n bs)) (sym (next_place at bit))
    ∙ place_none bs (64 * at + bit) xs (omega (arith, within, small)) (is bit small ∙ e)

pub start_place : (bs : List Bool) (at : ℕ) (xs : List ℕ) → xs ++ places_from (64 * at + 0) (drop (64 * at + 0) bs) ≡ xs ++ places_from (64 * at) (drop (64 * at) bs)
start_place bs at xs = let same : 64 * at + 0 ≡ 64 * at = omega arith in ap (λ (n : ℕ). xs ++ places_from n (drop n bs)) same

pub end_place : (bs : List Bool) (at bit : ℕ) (xs : List ℕ) → bit ≡ 64 → xs ++ places_from (64 * at + 64) (drop (64 * at + 64) bs) ≡ xs ++ places_from (64 * at + bit) (drop (64 * at + bit) bs)
end_place bs at bit xs last = ap (λ (n : ℕ). xs ++ places_from (64 * at + n) (drop (64 * at + n) bs)) (sym last)

pub next_word : (bs : List Bool) (at : ℕ) (xs : List ℕ) → xs ++ places_from (64 * (at + 1)) (drop (64 * (at + 1)) bs) ≡ xs ++ places_from (64 * at + 64) (drop (64 * at + 64) bs)
next_word bs at xs = let next : 64 * (at + 1) ≡ 64 * at + 64 = omega arith in ap (λ (n : ℕ). xs ++ places_from n (drop n bs)) next

-- where no bit is set, nothing is found

none_placed : (bs : List Bool) (i n : ℕ) (xs : List ℕ) → i + n ≤ length bs → ((j : ℕ) → i ≤ j → j < i + n → is_at bs j ≡ false) → xs ++ places_from (i + n) (drop (i + n) bs) ≡ xs ++ places_from i (drop i bs)
none_placed bs i zero xs within none =
    let same : i + 0 ≡ i = omega arith in
    ap (λ (m : ℕ). xs ++ places_from m (drop m bs)) same
none_placed bs i (suc n) xs within none =
    let last : i + suc n ≡ suc i + n = omega arith in
    let next : suc i ≡ i + 1 = omega arith in
    ap (λ (m : ℕ). xs ++ places_from m (drop m bs)) last
    ∙ none_placed bs (suc i) n xs (omega (arith, within)) (λ j above below. none j (omega (arith, above)) (omega (arith, below)))
    ∙ ap (λ (m : ℕ). xs ++ places_from m (drop m bs)) next
    ∙ place_none bs i xs (omega (arith, within)) (none i (omega arith) (omega arith))

-- a word of which no bit is set is passed over
pub word_passed : (bs : List Bool) (at : ℕ) (xs : List ℕ) → 64 * at + 64 ≤ length bs → IsWord bs at 0
    → xs ++ places_from (64 * at + 64) (drop (64 * at + 64) bs) ≡ xs ++ places_from (64 * at) (drop (64 * at) bs)
word_passed bs at xs within is = none_placed bs (64 * at) 64 xs within none
  where
    none : (j : ℕ) → 64 * at ≤ j → j < 64 * at + 64 → is_at bs j ≡ false
    none j above below =
        let split : 64 * at + (j - 64 * at) ≡ j = omega (arith, above) in
        ap (λ (n : ℕ). is_at bs n) (sym split) ∙ is (j - 64 * at) (omega (arith, above, below)) ∙ ap (λ (b : ℕ). b == 1) (bit_at-zero (j - 64 * at))

-- what a row is that is lent
pub lent_word : (bs : List Bool) (ws : List ℕ) (at w : ℕ) → bits_from ws 0 (64 * length ws) ≡ bs → at < length ws → w ≡ slice_index ws at → IsWord bs at w
lent_word bs ws at w same within is =
    subst (λ (t : List Bool). IsWord t at w) same (subst (λ (x : ℕ). IsWord (bits_from ws 0 (64 * length ws)) at x) (sym is) (word_there ws at within))

pub lent_nothing : (bs : List Bool) (ws : List ℕ) (at : ℕ) → bits_from ws 0 (64 * length ws) ≡ bs → length ws ≤ at → IsWord bs at 0
lent_nothing bs ws at same past = subst (λ (t : List Bool). IsWord t at 0) same (word_past ws at past)

-- a bit by its word
pub by_word : (bs : List Bool) (place w : ℕ) → IsWord bs (place / 64) w → (bit_at w (place % 64) == 1) ≡ is_at bs place
by_word bs place w is =
    let split : 64 * (place / 64) + place % 64 ≡ place = omega arith in
    let small : place % 64 < 64 = omega arith in
    sym (is (place % 64) small) ∙ ap (λ (n : ℕ). is_at bs n) split
