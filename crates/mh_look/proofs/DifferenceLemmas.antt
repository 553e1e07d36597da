-- The first cell in which two pictures differ.
use Rattle.std.specs.Prelude.{◌≡◌, ℕ, suc, zero, ◌+◌, ◌<◌, ◌≤◌, ◌≢◌, ◌==◌, eqb, ◌⊎◌, Bool, true, false, cond, not, ◌&&◌, List, [], ◌∷◌, ◌++◌, Option, Some, None, refl}
use Rattle.std.specs.List.{count_by, find, range_with_len}
use Rattle.std.proofs.Common.{ap, arith, inl, inr, sym, subst, ◌∙◌}
use Rattle.std.proofs.lemmas.Bool.{eqb-true}
use Rattle.std.proofs.lemmas.List.Sums.{sum_by-append}
use Rattle.std.proofs.lemmas.Bool.Decides.{Decides-eqb, eqb_tells}
use Rattle.mh_model.specs.declared.picture.cell.Cell.{Cell}
use Rattle.mh_model.specs.Planes.{Planes, IsWhole}
use Rattle.mh_model.specs.Picture.{cell_of}
use Rattle.mh_told.specs.Frame.{same_cell}
use Rattle.mh_model.proofs.PlanesLemmas.{is_picture}
use Rattle.mh_look.specs.Frames.{differs_at}

-- cells

three : (a b c : Bool) → a ≡ true → b ≡ true → c ≡ true → (a && b && c) ≡ true
three a b c e f g = rw (e, f, g) refl

three_parts : (a b c : Bool) → (a && b && c) ≡ true → (a ≡ true) × (b ≡ true) × (c ≡ true)
three_parts true true true e = (refl, refl, refl)
three_parts true true false e = cc
three_parts true false c e = cc
three_parts false b c e = cc

same_itself : (c : Cell) → same_cell c c ≡ true
same_itself c =
    three (c.scalar == c.scalar) (c.fore == c.fore) (c.back == c.back) ((Decides-eqb c.scalar c.scalar).1 refl) ((Decides-eqb c.fore c.fore).1 refl) ((Decides-eqb c.back c.back).1 refl)

made : (s t f g b h : ℕ) → s ≡ t → f ≡ g → b ≡ h → ◌≡◌ {A = Cell} (record { scalar = s; fore = f; back = b }) (record { scalar = t; fore = g; back = h })
made s t f g b h p q r = rw (p, q, r) refl

are_same : (c d : Cell) → same_cell c d ≡ true → c ≡ d
are_same c d e =
    let parts = three_parts (c.scalar == d.scalar) (c.fore == d.fore) (c.back == d.back) e in
    made c.scalar d.scalar c.fore d.fore c.back d.back (eqb-true c.scalar d.scalar parts.0) (eqb-true c.fore d.fore parts.1) (eqb-true c.back d.back parts.2)

not_false : (b : Bool) → not b ≡ false → b ≡ true
not_false true e = refl
not_false false e = absurd cc

-- a cell that does not differ is the same
pub same_at : (p q : Planes) (c : ℕ) → differs_at p q c ≡ false → cell_of p c ≡ cell_of q c
same_at p q c e = are_same (cell_of p c) (cell_of q c) (not_false (same_cell (cell_of p c) (cell_of q c)) e)

-- and one that does is not
pub other_at : (p q : Planes) (c : ℕ) → differs_at p q c ≡ true → cell_of p c ≢ cell_of q c
other_at p q c e is =
    let same : same_cell (cell_of p c) (cell_of q c) ≡ true = subst (λ (d : Cell). same_cell (cell_of p c) d ≡ true) is (same_itself (cell_of p c)) in
    let bad : false ≡ true = ap not (sym same) ∙ e in
    absurd cc

-- pictures of the same cells
pub same_picture : (p q : Planes) → IsWhole p → IsWhole q → ((c : ℕ) → c < 2160 → differs_at p q c ≡ false) → p ≡ q
same_picture p q left right none =
    is_picture (cell_of q) p left (λ c inside. same_at p q c (none c inside)) ∙ sym (is_picture (cell_of q) q right (λ c inside. refl))

-- the first number that passes a test

found_if : (b : Bool) (x : ℕ) (o r : Option ℕ) → b ≡ false → o ≡ r → cond b (Some x) o ≡ r
found_if b x o r e f = rw e f

pub find_none : (test : ℕ → Bool) (a n : ℕ) → ((c : ℕ) → a ≤ c → c < a + n → test c ≡ false) → find test (range_with_len a n) ≡ None
find_none test a zero none = refl
find_none test a (suc n) none =
    found_if (test a) a (find test (range_with_len (a + 1) n)) None (none a (omega arith) (omega arith))
    (find_none test (a + 1) n (λ c low high. none c (omega arith) (omega arith)))

at_or_behind : (a b : ℕ) → a ≤ b → (a ≡ b) ⊎ (a < b)
at_or_behind a b h = by (eqb_tells a b)
  where
    by : ((eqb a b ≡ true) × (a ≡ b)) ⊎ ((eqb a b ≡ false) × (a ≢ b)) → (a ≡ b) ⊎ (a < b)
    by (inl e) = inl e.1
    by (inr e) = let other : a ≢ b = e.1 in inr (omega arith)

here_or_behind : (test : ℕ → Bool) (a at : ℕ) (o : Option ℕ) → (a ≡ at) ⊎ (a < at) → (a < at → test a ≡ false) → (a < at → o ≡ Some at) → test at ≡ true → cond (test a) (Some a) o ≡ Some at
here_or_behind test a at o (inl e) before behind here = rw (subst (λ (k : ℕ). test k ≡ true) (sym e) here) (ap Some e)
here_or_behind test a at o (inr e) before behind here = found_if (test a) a o (Some at) (before e) (behind e)

pub find_at : (test : ℕ → Bool) (a n at : ℕ) → a ≤ at → at < a + n → ((c : ℕ) → a ≤ c → c < at → test c ≡ false) → test at ≡ true → find test (range_with_len a n) ≡ Some at
find_at test a zero at low high none here = absurd (omega arith)
find_at test a (suc n) at low high none here =
    here_or_behind test a at (find test (range_with_len (a + 1) n)) (at_or_behind a at low) (λ before. none a (omega arith) before)
    (λ before. find_at test (a + 1) n at (omega arith) (omega arith) (λ c from to. none c (omega arith) to) here) here

-- how many numbers pass a test, among one more

range_more : (a n : ℕ) → range_with_len a (suc n) ≡ range_with_len a n ++ (a + n) ∷ []
range_more a zero = let same : a ≡ a + 0 = omega arith in ap (λ (k : ℕ). k ∷ []) same
range_more a (suc n) =
    let same : a + 1 + n ≡ a + suc n = omega arith in
    ap (λ (ks : List ℕ). a ∷ ks) (range_more (a + 1) n ∙ ap (λ (k : ℕ). range_with_len (a + 1) n ++ k ∷ []) same)

abbrev counts : Bool → ℕ
counts b = cond b 1 0

counted_more : (test : ℕ → Bool) (n : ℕ) → count_by test (range_with_len 0 (suc n)) ≡ count_by test (range_with_len 0 n) + (0 + counts (test (0 + n)))
counted_more test n =
    ap (λ (ks : List ℕ). count_by test ks) (range_more 0 n) ∙ sum_by-append (λ (k : ℕ). counts (test k)) (range_with_len 0 n) ((0 + n) ∷ [])

plus_none : (n : ℕ) → n + 0 ≡ n
plus_none n = omega arith

none_plus : (n : ℕ) → 0 + n ≡ n
none_plus n = omega arith

counted_as : (test : ℕ → Bool) (n : ℕ) (b : Bool) → test n ≡ b → count_by test (range_with_len 0 (n + 1)) ≡ count_by test (range_with_len 0 n) + counts b
counted_as test n b is =
    let next : n + 1 ≡ suc n = omega arith in
    ap (λ (k : ℕ). count_by test (range_with_len 0 k)) next ∙ counted_more test n
    ∙ ap (λ (k : ℕ). count_by test (range_with_len 0 n) + k) (none_plus (counts (test (0 + n))) ∙ ap (λ (k : ℕ). counts (test k)) (none_plus n) ∙ ap counts is)

pub count_found : (test : ℕ → Bool) (n : ℕ) → test n ≡ true → count_by test (range_with_len 0 (n + 1)) ≡ count_by test (range_with_len 0 n) + 1
count_found test n is = counted_as test n true is

pub count_passed : (test : ℕ → Bool) (n : ℕ) → test n ≡ false → count_by test (range_with_len 0 (n + 1)) ≡ count_by test (range_with_len 0 n)
count_passed test n is = counted_as test n false is ∙ plus_none (count_by test (range_with_len 0 n))
