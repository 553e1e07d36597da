-- Rows of bits and of numbers.
use Rattle.std.specs.Prelude.{◌≡◌, ◌≢◌, ◌⊎◌, ◌<◌, ◌≤◌, ℕ, zero, suc, ◌+◌, ◌*◌, ◌/◌, ◌%◌, ◌==◌, ◌&&◌, ◌||◌, nat_eq, Bool, true, false, List, [], ◌∷◌, ◌++◌, length, map, Vec, slice_index_or, slice_set, replicate, refl}
use Rattle.std.specs.declared.alloc.Global.{Global}
use Rattle.std.specs.Int.{bit_at}
use Rattle.std.specs.List.{Contains, slice_index}
use Rattle.std.proofs.lemmas.Bool.Decides.{nat_tests}
use Rattle.std.proofs.Common.{rules, arith, inl, inr, ap, ◌∙◌, sym, subst, length-append, append-nil, eqb-true}
use Rattle.std.proofs.lemmas.List.{append_assoc, get_or_append_left, length-map}
use Rattle.std.proofs.lemmas.List.Elements.{Contains-append_left, Contains-append_right, Contains-append_cases}
use Rattle.mh_flow.specs.Rows.{number_rows, row, width_at, is_at, in_word, has, unset, free, laid, HasPut, LaidOut, WordPut, Emptied, Pushed, AreLonger}

abbrev pub items_of : {X : Type 0} → List (Vec X Global) → List (List X)
items_of rows = map (λ r. r.items) rows

pub found_row : {X : Type 0} (rows : List (Vec X Global)) (u : ℕ) (r : Vec X Global) → u < length rows → r ≡ slice_index_or rows u r → r.items ≡ row (items_of rows) u
found_row {X} [] u r less e = absurd (omega (arith, less))
found_row {X} (x ∷ rows) zero r less e = ap (λ (y : Vec X Global). y.items) e
found_row {X} (x ∷ rows) (suc u) r less e = found_row rows u r (omega (arith, less)) e

pub row_at : {X : Type 0} (rows : List (List X)) (u : ℕ) (r : List X) → u < length rows → r ≡ slice_index_or rows u r → r ≡ row rows u
row_at {X} [] u r less e = absurd (omega (arith, less))
row_at {X} (x ∷ rows) zero r less e = e
row_at {X} (x ∷ rows) (suc u) r less e = row_at rows u r (omega (arith, less)) e

pub row_past_end : {X : Type 0} (rows : List (List X)) (u : ℕ) → length rows ≤ u → [] ≡ row rows u
row_past_end {X} [] u less = refl
row_past_end {X} (x ∷ rows) zero less = absurd (omega (arith, less))
row_past_end {X} (x ∷ rows) (suc u) less = row_past_end rows u (omega (arith, less))

pub found_bit : (bs : List Bool) (q : ℕ) (d : Bool) → q < length bs → slice_index_or bs q d ≡ is_at bs q
found_bit [] q d less = absurd (omega (arith, less))
found_bit (b ∷ bs) zero d less = refl
found_bit (b ∷ bs) (suc q) d less = found_bit bs q d (omega (arith, less))

pub found_number : (xs : List ℕ) (i d : ℕ) → i < length xs → slice_index_or xs i d ≡ slice_index xs i
found_number [] i d less = absurd (omega (arith, less))
found_number (x ∷ xs) zero d less = refl
found_number (x ∷ xs) (suc i) d less = found_number xs i d (omega (arith, less))

abbrev pub set_row : {X : Type 0} → List (List X) → ℕ → List X → List (List X)
set_row [] u r = []
set_row (x ∷ rows) zero r = r ∷ rows
set_row (x ∷ rows) (suc u) r = x ∷ set_row rows u r

pub set_rows : {X : Type 0} (rows : List (Vec X Global)) (u : ℕ) (r : Vec X Global) → items_of (slice_set rows u r) ≡ set_row (items_of rows) u r.items
set_rows {X} [] u r = refl
set_rows {X} (x ∷ rows) zero r = refl
set_rows {X} (x ∷ rows) (suc u) r = ap (λ (t : List (List X)). x.items ∷ t) (set_rows rows u r)

pub set_row_at : {X : Type 0} (rows : List (List X)) (u : ℕ) (r : List X) → slice_set rows u r ≡ set_row rows u r
set_row_at {X} [] u r = refl
set_row_at {X} (x ∷ rows) zero r = refl
set_row_at {X} (x ∷ rows) (suc u) r = ap (λ (t : List (List X)). x ∷ t) (set_row_at rows u r)

-- rows that are set

row_same : {X : Type 0} (rows : List (List X)) (u : ℕ) (r : List X) → u < length rows → row (set_row rows u r) u ≡ r
row_same [] u r less = absurd (omega (arith, less))
row_same (x ∷ rows) zero r less = refl
row_same (x ∷ rows) (suc u) r less = row_same rows u r (omega (arith, less))

-- each row is the one that is set, or as it was
row_cases : {X : Type 0} (rows : List (List X)) (u x : ℕ) (r : List X) → ((x ≡ u) × (row (set_row rows u r) x ≡ r)) ⊎ (row (set_row rows u r) x ≡ row rows x)
row_cases [] u x r = inr refl
row_cases (y ∷ rows) zero zero r = inl (refl, refl)
row_cases (y ∷ rows) zero (suc x) r = inr refl
row_cases (y ∷ rows) (suc u) zero r = inr refl
row_cases (y ∷ rows) (suc u) (suc x) r = by (row_cases rows u x r)
  where
    by : ((x ≡ u) × (row (set_row rows u r) x ≡ r)) ⊎ (row (set_row rows u r) x ≡ row rows x) → ((suc x ≡ suc u) × (row (set_row rows u r) x ≡ r)) ⊎ (row (set_row rows u r) x ≡ row rows x)
    by (inl e) = inl (ap suc e.0, e.1)
    by (inr e) = inr e

set_length : {X : Type 0} (rows : List (List X)) (u : ℕ) (r : List X) → length (set_row rows u r) ≡ length rows
set_length [] u r = refl
set_length (x ∷ rows) zero r = refl
set_length (x ∷ rows) (suc u) r = ap suc (set_length rows u r)

row_other : {X : Type 0} (rows : List (List X)) (u x : ℕ) (r : List X) → x ≢ u → row (set_row rows u r) x ≡ row rows x
row_other {X} rows u x r other = by (row_cases rows u x r)
  where
    by : ((x ≡ u) × (row (set_row rows u r) x ≡ r)) ⊎ (row (set_row rows u r) x ≡ row rows x) → row (set_row rows u r) x ≡ row rows x
    by (inl e) = absurd (other e.0)
    by (inr e) = e

-- fewer bits are left where more are set

unset_grown : (w : ℕ) (old new : List Bool) → length new ≡ length old → ((q : ℕ) → is_at old q ≡ true → is_at new q ≡ true) → unset w new ≤ unset w old
unset_grown w [] [] same more = omega arith
unset_grown w [] (b ∷ new) same more = absurd (omega (arith, same))
unset_grown w (b ∷ old) [] same more = absurd (omega (arith, same))
unset_grown zero (a ∷ old) (b ∷ new) same more = omega arith
unset_grown (suc w) (true ∷ old) (true ∷ new) same more = unset_grown w old new (omega (arith, same)) (λ q h. more (suc q) h)
unset_grown (suc w) (true ∷ old) (false ∷ new) same more = let never = more 0 refl in absurd cc
unset_grown (suc w) (false ∷ old) (true ∷ new) same more =
    let below = unset_grown w old new (omega (arith, same)) (λ q h. more (suc q) h) in omega (arith, below)
unset_grown (suc w) (false ∷ old) (false ∷ new) same more =
    let below = unset_grown w old new (omega (arith, same)) (λ q h. more (suc q) h) in omega (arith, below)

unset_fewer : (w : ℕ) (old new : List Bool) (x : ℕ) → length old ≡ w → length new ≡ length old → ((q : ℕ) → is_at old q ≡ true → is_at new q ≡ true)
    → is_at old x ≡ false → is_at new x ≡ true → suc (unset w new) ≤ unset w old
unset_fewer w [] [] x wide same more off on = absurd cc
unset_fewer w [] (b ∷ new) x wide same more off on = absurd (omega (arith, same))
unset_fewer w (b ∷ old) [] x wide same more off on = absurd (omega (arith, same))
unset_fewer zero (a ∷ old) (b ∷ new) x wide same more off on = absurd (omega (arith, wide))
unset_fewer (suc w) (true ∷ old) (b ∷ new) zero wide same more off on = absurd cc
unset_fewer (suc w) (false ∷ old) (false ∷ new) zero wide same more off on = absurd cc
unset_fewer (suc w) (false ∷ old) (true ∷ new) zero wide same more off on =
    let below = unset_grown w old new (omega (arith, same)) (λ q h. more (suc q) h) in omega (arith, below)
unset_fewer (suc w) (true ∷ old) (true ∷ new) (suc x) wide same more off on =
    unset_fewer w old new x (omega (arith, wide)) (omega (arith, same)) (λ q h. more (suc q) h) off on
unset_fewer (suc w) (true ∷ old) (false ∷ new) (suc x) wide same more off on = let never = more 0 refl in absurd cc
unset_fewer (suc w) (false ∷ old) (true ∷ new) (suc x) wide same more off on =
    let below = unset_fewer w old new x (omega (arith, wide)) (omega (arith, same)) (λ q h. more (suc q) h) off on in omega (arith, below)
unset_fewer (suc w) (false ∷ old) (false ∷ new) (suc x) wide same more off on =
    let below = unset_fewer w old new x (omega (arith, wide)) (omega (arith, same)) (λ q h. more (suc q) h) off on in omega (arith, below)

free_fewer : (w : ℕ) (rows : List (List Bool)) (u : ℕ) (r : List Bool) → u < length rows → suc (unset w r) ≤ unset w (row rows u) → suc (free w (set_row rows u r)) ≤ free w rows
free_fewer w [] u r less e = absurd (omega (arith, less))
free_fewer w (s ∷ rows) zero r less e = omega (arith, e)
free_fewer w (s ∷ rows) (suc u) r less e = let below = free_fewer w rows u r (omega (arith, less)) e in omega (arith, below)

-- a row that is laid out

none_at : (w q : ℕ) → is_at (replicate w false) q ≡ false
none_at zero q = refl
none_at (suc w) zero = refl
none_at (suc w) (suc q) = none_at w q

laid_at : (w : ℕ) (bs : List Bool) (q : ℕ) → is_at (laid w bs) q ≡ is_at bs q
laid_at w [] q = none_at w q
laid_at w (b ∷ bs) q = refl

length_none : (w : ℕ) → length (replicate w false) ≡ w
length_none zero = refl
length_none (suc w) = ap suc (length_none w)

laid_length : (w : ℕ) (bs : List Bool) → (length bs ≡ 0) ⊎ (length bs ≡ w) → length (laid w bs) ≡ w
laid_length w [] e = length_none w
laid_length w (b ∷ bs) (inl e) = absurd (omega (arith, e))
laid_length w (b ∷ bs) (inr e) = e

unset_none : (w : ℕ) → unset w (replicate w false) ≡ w
unset_none zero = refl
unset_none (suc w) = ap suc (unset_none w)

unset_laid : (w : ℕ) (bs : List Bool) → unset w (laid w bs) ≡ unset w bs
unset_laid w [] = unset_none w
unset_laid w (b ∷ bs) = refl

free_laid : (w : ℕ) (rows : List (List Bool)) (u : ℕ) → free w (set_row rows u (laid w (row rows u))) ≡ free w rows
free_laid w [] u = refl
free_laid w (r ∷ rows) zero = ap (λ (n : ℕ). n + free w rows) (unset_laid w r)
free_laid w (r ∷ rows) (suc u) = ap (λ (n : ℕ). unset w r + n) (free_laid w rows u)

pub laid_out : (rows : List (List Bool)) (w u : ℕ) → u < length rows → (width_at rows u ≡ 0) ⊎ (width_at rows u ≡ w) → LaidOut w u rows (set_row rows u (laid w (row rows u)))
laid_out rows w u within e = record {
  laid = ap (λ (bs : List Bool). length bs) (row_same rows u (laid w (row rows u)) within) ∙ laid_length w (row rows u) e;
  height = set_length rows u (laid w (row rows u));
  width = λ x. width x (row_cases rows u x (laid w (row rows u)));
  same = λ x y. same x y (row_cases rows u x (laid w (row rows u)));
  rest = free_laid w rows u;
}
  where
    r : List Bool
    r = laid w (row rows u)

    width : (x : ℕ) → ((x ≡ u) × (row (set_row rows u r) x ≡ r)) ⊎ (row (set_row rows u r) x ≡ row rows x) → (width_at (set_row rows u r) x ≡ width_at rows x) ⊎ ((x ≡ u) × (width_at (set_row rows u r) x ≡ w))
    width x (inl is) = inr (is.0, ap (λ (bs : List Bool). length bs) is.1 ∙ laid_length w (row rows u) e)
    width x (inr k) = inl (ap (λ (bs : List Bool). length bs) k)

    same : (x y : ℕ) → ((x ≡ u) × (row (set_row rows u r) x ≡ r)) ⊎ (row (set_row rows u r) x ≡ row rows x) → has (set_row rows u r) x y ≡ has rows x y
    same x y (inl is) = ap (λ (bs : List Bool). is_at bs y) is.1 ∙ laid_at w (row rows u) y ∙ sym (ap (λ (z : ℕ). has rows z y) is.0)
    same x y (inr k) = ap (λ (bs : List Bool). is_at bs y) k

pub word_put : (rows : List (List Bool)) (u at bits : ℕ) (r : List Bool) → u < length rows → HasPut at bits (row rows u) r → WordPut u at bits rows (set_row rows u r)
word_put rows u at bits r within put = record {
  set = λ x y. set x y (nat_eq x u) refl;
  height = set_length rows u r;
  width = λ x. width x (row_cases rows u x r);
  less = λ w k wide inside on off. less w k wide inside on off;
}
  where
    set : (x y : ℕ) → (b : Bool) → nat_eq x u ≡ b → has (set_row rows u r) x y ≡ (has rows x y || (nat_eq x u && in_word at bits y))
    set x y true e =
        let is : x ≡ u = eqb-true x u e in
        ap (λ (z : ℕ). has (set_row rows u r) z y) is ∙ ap (λ (t : List Bool). is_at t y) (row_same rows u r within) ∙ put.1 y
        ∙ ap (λ (z : ℕ). has rows z y || in_word at bits y) (sym is)
        ∙ ap (λ (b : Bool). has rows x y || (b && in_word at bits y)) (sym e)
    set x y false e =
        let other : x ≢ u = λ is. absurd (grind (arith, nat_tests, e, is)) in
        ap (λ (t : List Bool). is_at t y) (row_other rows u x r other) ∙ or_nothing (has rows x y)
        ∙ ap (λ (b : Bool). has rows x y || (b && in_word at bits y)) (sym e)
      where
        or_nothing : (b : Bool) → b ≡ (b || false)
        or_nothing true = refl
        or_nothing false = refl

    width : (x : ℕ) → ((x ≡ u) × (row (set_row rows u r) x ≡ r)) ⊎ (row (set_row rows u r) x ≡ row rows x) → width_at (set_row rows u r) x ≡ width_at rows x
    width x (inl is) = ap (λ (bs : List Bool). length bs) is.1 ∙ put.0 ∙ sym (ap (λ (z : ℕ). width_at rows z) is.0)
    width x (inr same) = ap (λ (bs : List Bool). length bs) same

    stays : (q : ℕ) → is_at (row rows u) q ≡ true → is_at r q ≡ true
    stays q h = put.1 q ∙ ap (λ (b : Bool). b || in_word at bits q) h

    less : (w k : ℕ) → width_at rows u ≡ w → k < 64 → bit_at bits k ≡ 1 → has rows u (64 * at + k) ≡ false → suc (free w (set_row rows u r)) ≤ free w rows
    less w k wide inside on off =
        let quotient : (64 * at + k) / 64 ≡ at = omega (arith, inside) in
        let rest : (64 * at + k) % 64 ≡ k = omega (arith, inside) in
        let here : nat_eq ((64 * at + k) / 64) at ≡ true = grind (arith, nat_tests, quotient) in
        let set_there : (bit_at bits ((64 * at + k) % 64) == 1) ≡ true = ap (λ (n : ℕ). bit_at bits n == 1) rest ∙ ap (λ (n : ℕ). n == 1) on in
        free_fewer w rows u r within
        (unset_fewer w (row rows u) r (64 * at + k) wide put.0 stays off
        (put.1 (64 * at + k) ∙ (λ i. off i || (here i && set_there i))))

pub emptied : (rows : List (List Bool)) (u : ℕ) → u < length rows → Emptied u rows (set_row rows u [])
emptied rows u within = record { height = set_length rows u []; empty = row_same rows u [] within; others = λ x other. row_other rows u x [] other }

pub pushed : (rows : List (List ℕ)) (u n : ℕ) → u < length rows → Pushed u n rows (set_row rows u (row rows u ++ n ∷ []))
pushed rows u n within = record {
  put = subst (λ (t : List ℕ). Contains t n) (sym (row_same rows u r within)) (Contains-append_right (row rows u) (n ∷ []) n (0, search rules, refl));
  longer = λ x. longer x (row_cases rows u x r);
  only = λ x y h. only x y (row_cases rows u x r) h;
  height = set_length rows u r;
}
  where
    r : List ℕ
    r = row rows u ++ n ∷ []

    longer : (x : ℕ) → ((x ≡ u) × (row (set_row rows u r) x ≡ r)) ⊎ (row (set_row rows u r) x ≡ row rows x) → (more : List ℕ) × (row (set_row rows u r) x ≡ row rows x ++ more)
    longer x (inl is) = (n ∷ [], is.1 ∙ ap (λ (z : ℕ). row rows z ++ n ∷ []) (sym is.0))
    longer x (inr same) = ([], same ∙ sym (append-nil (row rows x)))

    lone : (y : ℕ) → Contains (n ∷ []) y → y ≡ n
    lone y (zero, less, e) = sym e
    lone y (suc i, less, e) = absurd (omega (arith, less))

    only : (x y : ℕ) → ((x ≡ u) × (row (set_row rows u r) x ≡ r)) ⊎ (row (set_row rows u r) x ≡ row rows x) → Contains (row (set_row rows u r) x) y → Contains (row rows x) y ⊎ ((x ≡ u) × (y ≡ n))
    only x y (inl is) h = by (Contains-append_cases (row rows u) (n ∷ []) y (subst (λ (t : List ℕ). Contains t y) is.1 h))
      where
        by : Contains (row rows u) y ⊎ Contains (n ∷ []) y → Contains (row rows x) y ⊎ ((x ≡ u) × (y ≡ n))
        by (inl k) = inl (subst (λ (z : ℕ). Contains (row rows z) y) (sym is.0) k)
        by (inr k) = inr (is.0, lone y k)
    only x y (inr same) h = inl (subst (λ (t : List ℕ). Contains t y) same h)

-- rows that are longer

pub same_longer : (rows : List (List ℕ)) → AreLonger rows rows
same_longer rows x = ([], sym (append-nil (row rows x)))

pub then_longer : (a b c : List (List ℕ)) → AreLonger a b → AreLonger b c → AreLonger a c
then_longer a b c s t x =
    let first = s x in
    let second = t x in
    (first.0 ++ second.0, second.1 ∙ ap (λ (r : List ℕ). r ++ second.0) first.1 ∙ append_assoc (row a x) first.0 second.0)

pub longer_has : (old new : List (List ℕ)) (x y : ℕ) → AreLonger old new → Contains (row old x) y → Contains (row new x) y
longer_has old new x y l h =
    let more = l x in
    subst (λ (t : List ℕ). Contains t y) (sym more.1) (Contains-append_left (row old x) more.0 y h)

-- what stood at a place stands there
pub longer_at : (old new : List (List ℕ)) (x i : ℕ) → AreLonger old new → i < length (row old x) → (i < length (row new x)) × (slice_index (row new x) i ≡ slice_index (row old x) i)
longer_at old new x i l less =
    let more = l x in
    let long = ap (λ (t : List ℕ). length t) more.1 ∙ length-append (row old x) more.0 in
    (omega (arith, less, long), ap (λ (t : List ℕ). slice_index t i) more.1 ∙ get_or_append_left (row old x) more.0 0 i less)

pub within_rows : {X : Type 0} (rows : List (Vec X Global)) (n u : ℕ) → length (items_of rows) ≡ n → u < n → u < length rows
within_rows {X} rows n u e less = subst (λ (m : ℕ). u < m) (sym e ∙ length-map rows (λ (r : Vec X Global). r.items)) less

-- what is read of rows that are lent

pub below_count : (rows lent : List (Vec ℕ Global)) (u i n : ℕ) → i < n → n ≡ length (row (number_rows lent) u) → lent ≡ rows → i < length (row (number_rows rows) u)
below_count rows lent u i n less count same = subst (λ (m : ℕ). i < m) (count ∙ ap (λ (t : List (Vec ℕ Global)). length (row (number_rows t) u)) same) less

pub number_found : (rows lent : List (Vec ℕ Global)) (u i x : ℕ) → x ≡ slice_index (row (number_rows lent) u) i → lent ≡ rows → x ≡ slice_index (row (number_rows rows) u) i
number_found rows lent u i x e same = e ∙ ap (λ (t : List (Vec ℕ Global)). slice_index (row (number_rows t) u) i) same
