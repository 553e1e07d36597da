-- Links in both directions: what becomes of them and of their order when a number is taken out or put in.
use Rattle.std.proofs.Common.{◌≡◌, ◌≢◌, ◌⊎◌, inl, inr, ℕ, suc, ◌+◌, ◌-◌, ◌≤◌, ◌<◌, Bool, true, false, nat_eq, List, [], ◌∷◌, ◌++◌, length, reverse, set, refl, sym, ap, ◌∙◌, subst, arith, add-one, length-append, length-set}
use Rattle.std.specs.List.{list_any}
use Rattle.std.proofs.lemmas.Bool.{cases_lt, cases_eq, cases_order}
use Rattle.std.proofs.lemmas.List.{get_or-set_same, get_or-set_other, get_or_past, get_or_append_left, get_or_push}
use Rattle.mh_stack.specs.Rings.{AreIn, next, walk, IsApart, IsLine, IsRing, without_number, put_below}
use Rattle.mh_stack.proofs.LineLemmas.{walked, length-walk, apart_within, apart_before, apart_any, any_apart, apart_zero, apart_alone, fewer, out_line, in_line, length-put_below, down, no_more, within}

-- Two links are set, one behind the other.

pub record IsSetTwice (f h : ℕ → ℕ) (p v q w : ℕ) : Type 0 where
  pub first : p ≢ q → h p ≡ v
  pub second : h q ≡ w
  pub others : (x : ℕ) → x ≢ p → x ≢ q → h x ≡ f x

pub set_twice : (xs : List ℕ) (p v q w : ℕ) → p < length xs → q < length xs → IsSetTwice (next xs) (next (set (set xs p v) q w)) p v q w
set_twice xs p v q w low high = record {
  first = λ differ. get_or-set_other (set xs p v) q p w p differ ∙ get_or-set_same xs p v p low;
  second = get_or-set_same (set xs p v) q w q (subst (λ (n : ℕ). q < n) (sym (length-set xs p v)) high);
  others = λ x a b. get_or-set_other (set xs p v) q x w x b ∙ get_or-set_other xs p x v x a;
}

-- Where links are.

pub past : (xs : List ℕ) (x : ℕ) → length xs ≤ x → next xs x ≡ x
past xs x most = get_or_past xs x x most

pub touched : (xs : List ℕ) (x : ℕ) → (next xs x ≡ x → ⊥) → x < length xs
touched xs x moves = by (cases_lt x (length xs))
  where
    by : (x < length xs) ⊎ (length xs ≤ x) → x < length xs
    by (inl less) = less
    by (inr most) = absurd (moves (past xs x most))

pub inside : (xs ys : List ℕ) (x : ℕ) → ((x : ℕ) → next ys (next xs x) ≡ x) → length ys ≡ length xs → x < length xs → next xs x < length xs
inside xs ys x back same low = by (cases_lt (next xs x) (length xs))
  where
    by : (next xs x < length xs) ⊎ (length xs ≤ next xs x) → next xs x < length xs
    by (inl less) = less
    by (inr most) =
        let stays : next xs x ≡ x = sym (past ys (next xs x) (subst (λ (n : ℕ). n ≤ next xs x) (sym same) most)) ∙ back x in
        absurd (omega (arith, most, stays, low))

-- one more link, which leads to itself
pub grown : (xs : List ℕ) → next (xs ++ length xs ∷ []) ≡ next xs
grown xs = λ i x. by x (cases_order x (length xs)) i
  where
    behind : (x : ℕ) → length xs < x → length (xs ++ length xs ∷ []) ≤ x
    behind x most = let long : length (xs ++ length xs ∷ []) ≡ length xs + 1 = length-append xs (length xs ∷ []) in omega (arith, long, most)

    by : (x : ℕ) → (x ≡ length xs) ⊎ ((x < length xs) ⊎ (length xs < x)) → next (xs ++ length xs ∷ []) x ≡ next xs x
    by x (inl same) = get_or_push xs (length xs) x x (sym same) ∙ sym same ∙ sym (past xs x (omega (arith, same)))
    by x (inr (inl less)) = get_or_append_left xs (length xs ∷ []) x x less
    by x (inr (inr most)) = past (xs ++ length xs ∷ []) x (behind x most) ∙ sym (past xs x (omega (arith, most)))

-- One is taken out.

out_crossed : (f g f' g' : ℕ → ℕ) (k : ℕ) → ((x : ℕ) → g (f x) ≡ x) → ((x : ℕ) → f (g x) ≡ x) → (f k ≡ k → ⊥)
    → IsSetTwice f f' (g k) (f k) k k → IsSetTwice g g' (f k) (g k) k k → (x : ℕ) → g' (f' x) ≡ x
out_crossed f g f' g' k back forth moves up below x = by (cases_eq x k) (cases_eq (f x) k)
  where
    by : (x ≡ k) ⊎ (x ≡ k → ⊥) → (f x ≡ k) ⊎ (f x ≡ k → ⊥) → g' (f' x) ≡ x
    by (inl same) _ = ap (λ (n : ℕ). g' (f' n)) same ∙ ap g' up.second ∙ below.second ∙ sym same
    by (inr other) (inl hits) =
        let is : x ≡ g k = sym (back x) ∙ ap g hits in
        let led : f' x ≡ f k = ap f' is ∙ up.first (λ e. other (is ∙ e)) in
        ap g' led ∙ below.first moves ∙ sym is
    by (inr other) (inr misses) =
        let led : f' x ≡ f x = up.others x (λ e. misses (ap f e ∙ forth k)) other in
        ap g' led ∙ below.others (f x) (λ e. other (sym (back x) ∙ ap g e ∙ back k)) misses ∙ back x

pub unlinked : (f g f' g' : ℕ → ℕ) (n k : ℕ) → IsRing f g n → (k ≡ 0 → ⊥) → (f k ≡ k → ⊥) → IsSetTwice f f' (g k) (f k) k k → IsSetTwice g g' (f k) (g k) k k
    → IsRing f' g' (n - 1) × (walk f' (n - 1) 0 ≡ without_number k (walk f n 0))
unlinked f g f' g' n k ring low moves up below = (record { back = backed; forth = forthed; line = kept; alone = left }, known)
  where
    there : IsApart k (walk f n 0) → ⊥
    there apart = moves (ring.alone k low apart)

    over : (x : ℕ) → x ≢ k → f x ≡ k → f' x ≡ f k
    over x other hits = let is : x ≡ g k = sym (ring.back x) ∙ ap g hits in ap f' is ∙ up.first (λ e. other (is ∙ e))

    rest : (x : ℕ) → x ≢ k → f x ≢ k → f' x ≡ f x
    rest x other misses = up.others x (λ e. misses (ap f e ∙ ring.forth k)) other

    apart_from_zero : 0 ≢ k
    apart_from_zero e = low (sym e)

    out : IsLine f' 0 (without_number k (walk f n 0))
    out = out_line f f' k low moves over rest 0 0 (walk f n 0) (λ m. rest 0 apart_from_zero m) (λ h. over 0 apart_from_zero h) ring.line

    short : suc (length (without_number k (walk f n 0))) ≡ n
    short = fewer f k 0 (walk f n 0) ring.line there ∙ length-walk f n 0

    count : n - 1 ≡ length (without_number k (walk f n 0))
    count = omega (arith, short)

    known : walk f' (n - 1) 0 ≡ without_number k (walk f n 0)
    known = ap (λ (m : ℕ). walk f' m 0) count ∙ walked f' 0 (without_number k (walk f n 0)) out

    kept : IsLine f' 0 (walk f' (n - 1) 0)
    kept = subst (λ (zs : List ℕ). IsLine f' 0 zs) (sym known) out

    backed : (x : ℕ) → g' (f' x) ≡ x
    backed = out_crossed f g f' g' k ring.back ring.forth moves up below

    forthed : (x : ℕ) → f' (g' x) ≡ x
    forthed = out_crossed g f g' f' k ring.forth ring.back (λ e. moves (sym (ap f e) ∙ ring.forth k)) below up

    left : (x : ℕ) → x ≢ 0 → IsApart x (walk f' (n - 1) 0) → f' x ≡ x
    left x high apart = by (cases_eq x k)
      where
        by : (x ≡ k) ⊎ (x ≡ k → ⊥) → f' x ≡ x
        by (inl same) = ap f' same ∙ up.second ∙ sym same
        by (inr other) =
            let stays : f x ≡ x = ring.alone x high (apart_within k x (walk f n 0) other (subst (λ (zs : List ℕ). IsApart x zs) known apart)) in
            rest x other (λ e. other (sym stays ∙ e)) ∙ stays

-- One is put in.

pub linked : (f g f' g' : ℕ → ℕ) (n k b : ℕ) → IsRing f g n → (k ≡ 0 → ⊥) → f k ≡ k → (IsApart b (walk f n 0) → b ≡ 0) → IsSetTwice f f' (g b) k k b → IsSetTwice g g' k (g b) b k
    → IsRing f' g' (n + 1) × (walk f' (n + 1) 0 ≡ put_below k b (walk f n 0))
linked f g f' g' n k b ring low self there up below = (record { back = backed; forth = forthed; line = kept; alone = left }, known)
  where
    apart_from_zero : 0 ≢ k
    apart_from_zero e = low (sym e)

    new : IsApart k (walk f n 0)
    new = apart_alone f g k ring.back self 0 (walk f n 0) apart_from_zero ring.line

    differ : k ≢ b
    differ e = low (e ∙ there (subst (λ (m : ℕ). IsApart m (walk f n 0)) e new))

    under : g b ≢ k
    under e = differ (sym (sym (ring.forth b) ∙ ap f e ∙ self))

    own : g k ≡ k
    own = sym (ap g self) ∙ ring.back k

    over : (x : ℕ) → x ≢ k → f x ≡ b → f' x ≡ k
    over x other hits = let is : x ≡ g b = sym (ring.back x) ∙ ap g hits in ap f' is ∙ up.first under

    rest : (x : ℕ) → x ≢ k → f x ≢ b → f' x ≡ f x
    rest x other misses = up.others x (λ e. misses (ap f e ∙ ring.forth b)) other

    put : IsLine f' 0 (put_below k b (walk f n 0))
    put = in_line f f' k b low up.second over rest 0 (walk f n 0) apart_from_zero new there ring.line

    long : n + 1 ≡ length (put_below k b (walk f n 0))
    long = add-one n ∙ ap suc (sym (length-walk f n 0)) ∙ sym (length-put_below k b (walk f n 0))

    known : walk f' (n + 1) 0 ≡ put_below k b (walk f n 0)
    known = ap (λ (m : ℕ). walk f' m 0) long ∙ walked f' 0 (put_below k b (walk f n 0)) put

    kept : IsLine f' 0 (walk f' (n + 1) 0)
    kept = subst (λ (zs : List ℕ). IsLine f' 0 zs) (sym known) put

    backed : (x : ℕ) → g' (f' x) ≡ x
    backed x = by (cases_eq x k) (cases_eq (f x) b)
      where
        by : (x ≡ k) ⊎ (x ≡ k → ⊥) → (f x ≡ b) ⊎ (f x ≡ b → ⊥) → g' (f' x) ≡ x
        by (inl same) _ = ap (λ (m : ℕ). g' (f' m)) same ∙ ap g' up.second ∙ below.second ∙ sym same
        by (inr other) (inl hits) = ap g' (over x other hits) ∙ below.first differ ∙ ap g (sym hits) ∙ ring.back x
        by (inr other) (inr misses) =
            ap g' (rest x other misses) ∙ below.others (f x) (λ e. other (sym (ring.back x) ∙ ap g e ∙ own)) misses ∙ ring.back x

    forthed : (x : ℕ) → f' (g' x) ≡ x
    forthed x = by (cases_eq x b) (cases_eq x k)
      where
        by : (x ≡ b) ⊎ (x ≡ b → ⊥) → (x ≡ k) ⊎ (x ≡ k → ⊥) → f' (g' x) ≡ x
        by (inl same) _ = ap (λ (m : ℕ). f' (g' m)) same ∙ ap f' below.second ∙ up.second ∙ sym same
        by (inr other) (inl same) = ap (λ (m : ℕ). f' (g' m)) same ∙ ap f' (below.first differ) ∙ up.first under ∙ sym same
        by (inr other) (inr far) =
            ap f' (below.others x far other) ∙ rest (g x) (λ e. far (sym (ring.forth x) ∙ ap f e ∙ self)) (λ e. other (sym (ring.forth x) ∙ e)) ∙ ring.forth x

    left : (x : ℕ) → x ≢ 0 → IsApart x (walk f' (n + 1) 0) → f' x ≡ x
    left x high apart =
        let h = apart_before x k b (walk f n 0) (subst (λ (zs : List ℕ). IsApart x zs) known apart) in
        let stays : f x ≡ x = ring.alone x high h.1 in
        let none : f x ≢ b = λ e. high ((sym stays ∙ e) ∙ there (subst (λ (m : ℕ). IsApart m (walk f n 0)) (sym stays ∙ e) h.1)) in
        rest x (λ e. h.0 (sym e)) none ∙ stays

-- What is known of a ring.

pub is_linked : (f g : ℕ → ℕ) (n k : ℕ) → IsRing f g n → (k ≡ 0 → ⊥) → (f k ≡ k → ⊥) → list_any (nat_eq k) (walk f n 0) ≡ true
is_linked f g n k ring low moves = by (list_any (nat_eq k) (walk f n 0)) refl
  where
    by : (b : Bool) → list_any (nat_eq k) (walk f n 0) ≡ b → list_any (nat_eq k) (walk f n 0) ≡ true
    by true e = e
    by false e = absurd (moves (ring.alone k low (any_apart k (walk f n 0) e)))

pub is_alone : (f g : ℕ → ℕ) (n k : ℕ) → IsRing f g n → (k ≡ 0 → ⊥) → f k ≡ k → list_any (nat_eq k) (walk f n 0) ≡ false
is_alone f g n k ring low stays = apart_any k (walk f n 0) (apart_alone f g k ring.back stays 0 (walk f n 0) (λ e. low (sym e)) ring.line)

pub no_zero : (f g : ℕ → ℕ) (n : ℕ) → IsRing f g n → list_any (nat_eq 0) (walk f n 0) ≡ false
no_zero f g n ring = apart_any 0 (walk f n 0) (apart_zero f 0 (walk f n 0) ring.line)

pub few : (xs : List ℕ) (g : ℕ → ℕ) (n : ℕ) → IsRing (next xs) g n → n ≤ length xs
few xs g n ring = subst (λ (m : ℕ). m ≤ length xs) (length-walk (next xs) n 0) (no_more (next xs) g (walk (next xs) n 0) (length xs) ring.back (λ x most. past xs x most) ring.line)

pub all_within : (xs : List ℕ) (g : ℕ → ℕ) (n : ℕ) → IsRing (next xs) g n → AreIn (length xs) (walk (next xs) n 0)
all_within xs g n ring =
    within (next xs) g (length xs) ring.back (λ x most. past xs x most) 0 (walk (next xs) n 0) (apart_zero (next xs) 0 (walk (next xs) n 0) ring.line) ring.line

pub downward : (f g : ℕ → ℕ) (n : ℕ) → IsRing f g n → walk g n 0 ≡ reverse (walk f n 0)
downward f g n ring = ap (λ (m : ℕ). walk g m 0) (sym (length-walk f n 0)) ∙ down f g ring.back (walk f n 0) ring.line
