-- References to other groups are taken out of an order, number by number.
use Rattle.std.proofs.Common.{◌≡◌, ◌⊎◌, inl, inr, ℕ, suc, ◌+◌, ◌-◌, ◌<◌, Bool, true, false, ◌&&◌, ◌||◌, not, cond, if◌then◌else◌, nat_eq, nat_lt, List, [], ◌∷◌, filter, get_or, refl, sym, ap, ◌∙◌, arith}
use Rattle.std.specs.Str.{bytes_eq}
use Rattle.std.proofs.lemmas.Bool.{eq-eqb, ne_eqb, lt-ltb, le-ltb, cases_order, and_right}
use Rattle.mh_base.specs.declared.obj_ref.ObjRef.{ObjRef}
use Rattle.mh_model.specs.Reference.{group_ref}
use Rattle.mh_stack.specs.References.{ref_at, refs_at}
use Rattle.mh_stack.specs.Rings.{AreIn, without_number}

abbrev pub is_left : (ℕ → Bool) → ℕ → ℕ → Bool
is_left p i x = nat_lt i x || p x

out_filter : (k : ℕ) (q q' : ℕ → Bool) → ((y : ℕ) → (q y && not (nat_eq k y)) ≡ q' y) → (ys : List ℕ) → without_number k (filter q ys) ≡ filter q' ys
out_filter k q q' same [] = refl
out_filter k q q' same (y ∷ ys) = by (q y) refl (nat_eq k y) refl (out_filter k q q' same ys)
  where
    by : (a : Bool) → q y ≡ a → (b : Bool) → nat_eq k y ≡ b → without_number k (filter q ys) ≡ filter q' ys → without_number k (filter q (y ∷ ys)) ≡ filter q' (y ∷ ys)
    by true e true h rest =
        let none : q' y ≡ false = sym (same y) ∙ (λ i. e i && not (h i)) in
        rw (e, h, none) rest
    by true e false h rest =
        let some : q' y ≡ true = sym (same y) ∙ (λ i. e i && not (h i)) in
        rw (e, h, some) (ap (λ (zs : List ℕ). y ∷ zs) rest)
    by false e b h rest =
        let none : q' y ≡ false = sym (same y) ∙ (λ i. e i && not (nat_eq k y)) in
        rw (e, none) rest

pub left_first : (p : ℕ → Bool) (n : ℕ) (ys : List ℕ) → AreIn n ys → filter (is_left p 0) ys ≡ ys
left_first p n [] inside = refl
left_first p n (y ∷ ys) inside =
    let some : nat_lt 0 y ≡ true = lt-ltb 0 y (omega (arith, inside.0)) in
    rw some (ap (λ (zs : List ℕ). y ∷ zs) (left_first p n ys inside.2))

pub left_last : (p : ℕ → Bool) (n : ℕ) (ys : List ℕ) → AreIn (suc n) ys → filter (is_left p n) ys ≡ filter p ys
left_last p n [] inside = refl
left_last p n (y ∷ ys) inside =
    let none : nat_lt n y ≡ false = le-ltb n y (omega (arith, inside.1)) in
    rw none (λ i. cond (p y) (y ∷ left_last p n ys inside.2 i) (left_last p n ys inside.2 i))

and_true : (b : Bool) → (b && true) ≡ b
and_true true = refl
and_true false = refl

left_out : (p : ℕ → Bool) (i : ℕ) → p (i + 1) ≡ false → (ys : List ℕ) → without_number (i + 1) (filter (is_left p i) ys) ≡ filter (is_left p (i + 1)) ys
left_out p i none ys = out_filter (i + 1) (is_left p i) (is_left p (i + 1)) (λ y. by y (cases_order y (i + 1))) ys
  where
    by : (y : ℕ) → (y ≡ i + 1) ⊎ ((y < i + 1) ⊎ (i + 1 < y)) → (is_left p i y && not (nat_eq (i + 1) y)) ≡ is_left p (i + 1) y
    by y (inl same) =
        let here : nat_eq (i + 1) y ≡ true = eq-eqb (i + 1) y (sym same) in
        let past : nat_lt (i + 1) y ≡ false = le-ltb (i + 1) y (omega (arith, same)) in
        let out : p y ≡ false = ap p same ∙ none in
        and_right (is_left p i y) (not (nat_eq (i + 1) y)) (ap not here) ∙ sym ((λ j. past j || out j))
    by y (inr (inl less)) =
        let there : nat_eq (i + 1) y ≡ false = ne_eqb (i + 1) y (λ same. absurd (omega (arith, less, same))) in
        let now : nat_lt i y ≡ false = le-ltb i y (omega (arith, less)) in
        let past : nat_lt (i + 1) y ≡ false = le-ltb (i + 1) y (omega (arith, less)) in
        (λ j. (now j || p y) && not (there j)) ∙ and_true (p y) ∙ sym (λ j. past j || p y)
    by y (inr (inr more)) =
        let there : nat_eq (i + 1) y ≡ false = ne_eqb (i + 1) y (λ same. absurd (omega (arith, more, same))) in
        let now : nat_lt i y ≡ true = lt-ltb i y (omega (arith, more)) in
        let past : nat_lt (i + 1) y ≡ true = lt-ltb (i + 1) y more in
        (λ j. (now j || p y) && not (there j)) ∙ sym (λ j. past j || p y)

left_same : (p : ℕ → Bool) (i : ℕ) → p (i + 1) ≡ true → (ys : List ℕ) → filter (is_left p i) ys ≡ filter (is_left p (i + 1)) ys
left_same p i some ys = λ j. filter (λ y. by y (cases_order y (i + 1)) j) ys
  where
    by : (y : ℕ) → (y ≡ i + 1) ⊎ ((y < i + 1) ⊎ (i + 1 < y)) → is_left p i y ≡ is_left p (i + 1) y
    by y (inl same) =
        let now : nat_lt i y ≡ true = lt-ltb i y (omega (arith, same)) in
        let past : nat_lt (i + 1) y ≡ false = le-ltb (i + 1) y (omega (arith, same)) in
        let stays : p y ≡ true = ap p same ∙ some in
        (λ j. now j || p y) ∙ sym (λ j. past j || stays j)
    by y (inr (inl less)) =
        let now : nat_lt i y ≡ false = le-ltb i y (omega (arith, less)) in
        let past : nat_lt (i + 1) y ≡ false = le-ltb (i + 1) y (omega (arith, less)) in
        (λ j. now j || p y) ∙ sym (λ j. past j || p y)
    by y (inr (inr more)) =
        let now : nat_lt i y ≡ true = lt-ltb i y (omega (arith, more)) in
        let past : nat_lt (i + 1) y ≡ true = lt-ltb (i + 1) y more in
        (λ j. now j || p y) ∙ sym (λ j. past j || p y)

abbrev pub is_of : List ℕ → List ObjRef → ℕ → Bool
is_of g rs x = bytes_eq (ref_at rs x).group g

pub left_next : (g : List ℕ) (rs : List ObjRef) (i : ℕ) (all old new : List ℕ) → old ≡ filter (is_left (is_of g rs) i) all
    → new ≡ (if bytes_eq (get_or rs i (group_ref [])).group g then old else without_number (i + 1) old) → new ≡ filter (is_left (is_of g rs) (i + 1)) all
left_next g rs i all old new known is = is ∙ by (bytes_eq (get_or rs i (group_ref [])).group g) refl
  where
    place : is_of g rs (i + 1) ≡ bytes_eq (get_or rs i (group_ref [])).group g
    place = let back : i + 1 - 1 ≡ i = omega arith in ap (λ (n : ℕ). bytes_eq (get_or rs n (group_ref [])).group g) back

    by : (b : Bool) → bytes_eq (get_or rs i (group_ref [])).group g ≡ b → (if b then old else without_number (i + 1) old) ≡ filter (is_left (is_of g rs) (i + 1)) all
    by true e = known ∙ left_same (is_of g rs) i (place ∙ e) all
    by false e = ap (λ (zs : List ℕ). without_number (i + 1) zs) known ∙ left_out (is_of g rs) i (place ∙ e) all

pub mapped_filter : (g : List ℕ) (rs : List ObjRef) (ys : List ℕ) → refs_at rs (filter (is_of g rs) ys) ≡ filter (λ r. bytes_eq r.group g) (refs_at rs ys)
mapped_filter g rs [] = refl
mapped_filter g rs (y ∷ ys) = by (bytes_eq (ref_at rs y).group g) refl (mapped_filter g rs ys)
  where
    by : (b : Bool) → bytes_eq (ref_at rs y).group g ≡ b → refs_at rs (filter (is_of g rs) ys) ≡ filter (λ r. bytes_eq r.group g) (refs_at rs ys) → refs_at rs (filter (is_of g rs) (y ∷ ys)) ≡ filter (λ r. bytes_eq r.group g) (refs_at rs (y ∷ ys))
    by true e rest = rw e (ap (λ (qs : List ObjRef). ref_at rs y ∷ qs) rest)
    by false e rest = rw e rest
