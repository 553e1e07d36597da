-- Numbers that rise: a sort and a `dedup` keep the members, and two lists that rise and have the same members are one.
use Rattle.std.specs.Prelude.{◌≡◌, ℕ, ◌<◌, ◌≤◌, ◌⊎◌, nat_eq, nat_lt, Bool, true, false, ◌||◌, cond, List, [], ◌∷◌, refl}
use Rattle.std.specs.List.{list_any, dedup, dedup_from, AllByRecursion}
use Rattle.std.specs.List.Sorted.{IsStrictlySortedBy}
use Rattle.std.specs.Ordering.{nat_cmp}
use Rattle.std.specs.declared.cmp.Ordering.TheVariants.{Less, Equal, Greater}
use Rattle.std.proofs.Common.{ap, sym, ◌∙◌, arith, inl, inr}
use Rattle.std.proofs.lemmas.Bool.{cases_lt, eq-eqb, eqb-true, ne_eqb, false≢true, ltb-true}

-- Members

or_twice : (a b : Bool) → (a || b) ≡ (a || (a || b))
or_twice true b = refl
or_twice false b = refl

members_from : (n k : ℕ) (xs : List ℕ) → list_any (nat_eq n) (dedup_from nat_eq k xs) ≡ (nat_eq n k || list_any (nat_eq n) xs)
members_from n k [] = refl
members_from n k (x ∷ xs) = by (nat_eq x k) refl (members_from n k xs) (members_from n x xs)
  where
    by : (t : Bool) → nat_eq x k ≡ t → list_any (nat_eq n) (dedup_from nat_eq k xs) ≡ (nat_eq n k || list_any (nat_eq n) xs) → list_any (nat_eq n) (dedup_from nat_eq x xs) ≡ (nat_eq n x || list_any (nat_eq n) xs)
        → list_any (nat_eq n) (cond t (dedup_from nat_eq k xs) (k ∷ dedup_from nat_eq x xs)) ≡ (nat_eq n k || (nat_eq n x || list_any (nat_eq n) xs))
    by true same below other =
        below
        ∙ or_twice (nat_eq n k) (list_any (nat_eq n) xs)
        ∙ ap (λ (y : ℕ). nat_eq n k || (nat_eq n y || list_any (nat_eq n) xs)) (sym (eqb-true x k same))
    by false apart below other = ap (λ (b : Bool). nat_eq n k || b) other

pub members_dedup : (n : ℕ) (xs : List ℕ) → list_any (nat_eq n) (dedup nat_eq xs) ≡ list_any (nat_eq n) xs
members_dedup n [] = refl
members_dedup n (x ∷ xs) = members_from n x xs

-- Order

below : (x y : ℕ) → nat_cmp x y ≡ Less → x < y
below x y less = by (nat_lt x y) refl less
  where
    equal_or : (e : Bool) → cond e Equal Greater ≡ Less → x < y
    equal_or true h = absurd cc
    equal_or false h = absurd cc

    by : (t : Bool) → nat_lt x y ≡ t → cond t Less (cond (nat_eq x y) Equal Greater) ≡ Less → x < y
    by true is h = ltb-true x y is
    by false is h = equal_or (nat_eq x y) h

-- what is no larger than all that are below others is none of these
none_of : (n x : ℕ) (ys : List ℕ) → n ≤ x → AllByRecursion (λ y. nat_cmp x y ≡ Less) ys → list_any (nat_eq n) ys ≡ false
none_of n x [] low all = refl
none_of n x (y ∷ ys) low all =
    let later : x < y = below x y all.0 in
    ap (λ (b : Bool). b || list_any (nat_eq n) ys) (ne_eqb n y (λ (e : n ≡ y). absurd (omega (arith, later, low, e))))
    ∙ none_of n x ys low all.1

not_less : (x y : ℕ) (xs ys : List ℕ) → AllByRecursion (λ z. nat_cmp y z ≡ Less) ys → list_any (nat_eq x) (x ∷ xs) ≡ list_any (nat_eq x) (y ∷ ys) → x < y → false ≡ true
not_less x y xs ys all same less =
    sym
    (ap (λ (b : Bool). b || list_any (nat_eq x) ys) (ne_eqb x y (λ (e : x ≡ y). absurd (omega (arith, less, e))))
    ∙ none_of x y ys (omega (arith, less)) all)
    ∙ sym same ∙ ap (λ (b : Bool). b || list_any (nat_eq x) xs) (eq-eqb x x refl)

pub same_rising : (xs ys : List ℕ) → IsStrictlySortedBy nat_cmp xs → IsStrictlySortedBy nat_cmp ys → ((n : ℕ) → list_any (nat_eq n) xs ≡ list_any (nat_eq n) ys) → xs ≡ ys
unfolding IsStrictlySortedBy
same_rising [] [] rising risen same = refl
same_rising [] (y ∷ ys) rising risen same = absurd (false≢true (same y ∙ ap (λ (b : Bool). b || list_any (nat_eq y) ys) (eq-eqb y y refl)))
same_rising (x ∷ xs) [] rising risen same = absurd (false≢true (sym (same x) ∙ ap (λ (b : Bool). b || list_any (nat_eq x) xs) (eq-eqb x x refl)))
same_rising (x ∷ xs) (y ∷ ys) rising risen same =
    λ i. first (cases_lt x y) (cases_lt y x) i ∷ same_rising xs ys rising.1 risen.1 (λ n. behind n (first (cases_lt x y) (cases_lt y x)) (nat_eq n x) refl) i
  where
    first : (x < y) ⊎ (y ≤ x) → (y < x) ⊎ (x ≤ y) → x ≡ y
    first (inl less) other = absurd (false≢true (not_less x y xs ys risen.0 (same x) less))
    first (inr most) (inl less) = absurd (false≢true (not_less y x ys xs rising.0 (sym (same y)) less))
    first (inr most) (inr least) = omega (arith, most, least)

    behind : (n : ℕ) → x ≡ y → (t : Bool) → nat_eq n x ≡ t → list_any (nat_eq n) xs ≡ list_any (nat_eq n) ys
    behind n e true is =
        let here : n ≡ x = eqb-true n x is in
        none_of n x xs (omega (arith, here)) rising.0 ∙ sym (none_of n y ys (omega (arith, here, e)) risen.0)
    behind n e false is =
        ap (λ (b : Bool). b || list_any (nat_eq n) xs) (sym is)
        ∙ same n
        ∙ ap (λ (b : Bool). b || list_any (nat_eq n) ys) (ap (nat_eq n) (sym e) ∙ is)
