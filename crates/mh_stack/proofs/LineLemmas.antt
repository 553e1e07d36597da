-- Lines of numbers: what becomes of one when links change.
use Rattle.std.proofs.Common.{◌≡◌, ◌≢◌, ◌⊎◌, inl, inr, ℕ, zero, suc, ◌+◌, ◌≤◌, ◌<◌, Bool, true, false, nat_eq, List, [], ◌∷◌, ◌++◌, length, reverse, refl, sym, ap, ◌∙◌, subst, arith, eqb-true}
use Rattle.std.specs.List.{list_any, IsDistinct, AllByRecursion}
use Rattle.std.proofs.lemmas.Bool.{eqb-false, eq-eqb, ne_eqb, cases_lt, cases_eq, both_ways}
use Rattle.std.proofs.lemmas.List.{append_assoc, reverse-append}
use Rattle.std.proofs.lemmas.Map.Steps.{length-le_from_distinct_below}
use Rattle.mh_stack.specs.Rings.{walk, IsApart, IsLine, without_number, put_below, put_above, AreIn}

-- What is walked.

pub walked : (f : ℕ → ℕ) (x : ℕ) (ys : List ℕ) → IsLine f x ys → walk f (length ys) x ≡ ys
walked f x [] line = refl
walked f x (y ∷ ys) line = rw line.0 (ap (λ (zs : List ℕ). y ∷ zs) (walked f y ys line.3))

pub length-walk : (f : ℕ → ℕ) (n x : ℕ) → length (walk f n x) ≡ n
length-walk f zero x = refl
length-walk f (suc n) x = ap suc (length-walk f n (f x))

-- What is apart.

pub apart_without : (k x : ℕ) (ys : List ℕ) → IsApart x ys → IsApart x (without_number k ys)
apart_without k x [] apart = tt
apart_without k x (y ∷ ys) apart = by (nat_eq k y) refl (apart_without k x ys apart.1)
  where
    by : (b : Bool) → nat_eq k y ≡ b → IsApart x (without_number k ys) → IsApart x (without_number k (y ∷ ys))
    by true e rest = rw e rest
    by false e rest = rw e (apart.0, rest)

pub apart_within : (k x : ℕ) (ys : List ℕ) → x ≢ k → IsApart x (without_number k ys) → IsApart x ys
apart_within k x [] other apart = tt
apart_within k x (y ∷ ys) other apart = by (nat_eq k y) refl (λ rest. apart_within k x ys other rest) apart
  where
    by : (b : Bool) → nat_eq k y ≡ b → (IsApart x (without_number k ys) → IsApart x ys) → IsApart x (without_number k (y ∷ ys)) → IsApart x (y ∷ ys)
    by true e rest is = ((λ same. other (sym same ∙ sym (eqb-true k y e))), rest (rw e at is))
    by false e rest is = let h : IsApart x (y ∷ without_number k ys) = rw e at is in (h.0, rest h.1)

pub without_apart : (k : ℕ) (ys : List ℕ) → IsApart k ys → without_number k ys ≡ ys
without_apart k [] apart = refl
without_apart k (y ∷ ys) apart = rw (ne_eqb k y (λ same. apart.0 (sym same))) (ap (λ (zs : List ℕ). y ∷ zs) (without_apart k ys apart.1))

pub apart_any : (k : ℕ) (ys : List ℕ) → IsApart k ys → list_any (nat_eq k) ys ≡ false
apart_any k [] apart = refl
apart_any k (y ∷ ys) apart = rw (ne_eqb k y (λ same. apart.0 (sym same))) (apart_any k ys apart.1)

pub any_apart : (k : ℕ) (ys : List ℕ) → list_any (nat_eq k) ys ≡ false → IsApart k ys
any_apart k [] none = tt
any_apart k (y ∷ ys) none = by (nat_eq k y) refl none (λ rest. any_apart k ys rest)
  where
    by : (b : Bool) → nat_eq k y ≡ b → list_any (nat_eq k) (y ∷ ys) ≡ false → (list_any (nat_eq k) ys ≡ false → IsApart k ys) → IsApart k (y ∷ ys)
    by true e is rest = absurd (both_ways true (rw e at is) refl)
    by false e is rest = ((λ same. eqb-false k y e (sym same)), rest (rw e at is))

pub apart_zero : (f : ℕ → ℕ) (x : ℕ) (ys : List ℕ) → IsLine f x ys → IsApart 0 ys
apart_zero f x [] line = tt
apart_zero f x (y ∷ ys) line = (line.1, apart_zero f y ys line.3)

-- what leads to itself is in no line from another one
pub apart_alone : (f g : ℕ → ℕ) (k : ℕ) → ((x : ℕ) → g (f x) ≡ x) → f k ≡ k → (x : ℕ) (ys : List ℕ) → x ≢ k → IsLine f x ys → IsApart k ys
apart_alone f g k back alone x [] other line = tt
apart_alone f g k back alone x (y ∷ ys) other line = (differ, apart_alone f g k back alone y ys differ line.3)
  where
    differ : y ≢ k
    differ same = other (sym (back x) ∙ ap g (line.0 ∙ same ∙ sym alone) ∙ back k)

-- One is taken out.

pub fewer : (f : ℕ → ℕ) (k x : ℕ) (ys : List ℕ) → IsLine f x ys → (IsApart k ys → ⊥) → suc (length (without_number k ys)) ≡ length ys
fewer f k x [] line there = absurd (there tt)
fewer f k x (y ∷ ys) line there = by (nat_eq k y) refl (λ some. fewer f k y ys line.3 some)
  where
    by : (b : Bool) → nat_eq k y ≡ b → ((IsApart k ys → ⊥) → suc (length (without_number k ys)) ≡ length ys) → suc (length (without_number k (y ∷ ys))) ≡ length (y ∷ ys)
    by true e rest = rw e (ap (λ (zs : List ℕ). suc (length zs)) (without_apart k ys (subst (λ (n : ℕ). IsApart n ys) (sym (eqb-true k y e)) line.2)))
    by false e rest = rw e (ap suc (rest (λ apart. there ((λ same. eqb-false k y e (sym same)), apart))))

-- w now leads to what comes behind x, or behind k, where k came next
pub out_line : (f f' : ℕ → ℕ) (k : ℕ) → k ≢ 0 → f k ≢ k → ((x : ℕ) → x ≢ k → f x ≡ k → f' x ≡ f k) → ((x : ℕ) → x ≢ k → f x ≢ k → f' x ≡ f x)
    → (x w : ℕ) (ys : List ℕ) → (f x ≢ k → f' w ≡ f x) → (f x ≡ k → f' w ≡ f k) → IsLine f x ys → IsLine f' w (without_number k ys)
out_line f f' k some moves over rest x w [] leads jumps line = leads (λ same. some (sym same ∙ line)) ∙ line
out_line f f' k some moves over rest x w (y ∷ ys) leads jumps line =
    by (nat_eq k y) refl (λ v go jump. out_line f f' k some moves over rest y v ys go jump line.3)
  where
    by : (b : Bool) → nat_eq k y ≡ b → ((v : ℕ) → (f y ≢ k → f' v ≡ f y) → (f y ≡ k → f' v ≡ f k) → IsLine f' v (without_number k ys)) → IsLine f' w (without_number k (y ∷ ys))
    by true e shorter =
        let same : k ≡ y = eqb-true k y e in
        rw e (shorter w (λ _. jumps (line.0 ∙ sym same) ∙ ap f same) (λ here. absurd (moves (ap f same ∙ here))))
    by false e shorter =
        let other : y ≢ k = λ same. eqb-false k y e (sym same) in
        rw e (leads (λ same. other (sym line.0 ∙ same)) ∙ line.0, line.1, apart_without k y ys line.2, shorter y (λ next. rest y other next) (λ here. over y other here))

-- One is put in.

pub apart_below : (x k b : ℕ) (ys : List ℕ) → k ≢ x → IsApart x ys → IsApart x (put_below k b ys)
apart_below x k b [] other apart = (other, tt)
apart_below x k b (y ∷ ys) other apart = by (nat_eq b y) refl (apart_below x k b ys other apart.1)
  where
    by : (t : Bool) → nat_eq b y ≡ t → IsApart x (put_below k b ys) → IsApart x (put_below k b (y ∷ ys))
    by true e rest = rw e (other, apart)
    by false e rest = rw e (apart.0, rest)

pub apart_before : (x k b : ℕ) (ys : List ℕ) → IsApart x (put_below k b ys) → (k ≢ x) × IsApart x ys
apart_before x k b [] apart = (apart.0, tt)
apart_before x k b (y ∷ ys) apart = by (nat_eq b y) refl (λ rest. apart_before x k b ys rest) apart
  where
    by : (t : Bool) → nat_eq b y ≡ t → (IsApart x (put_below k b ys) → (k ≢ x) × IsApart x ys) → IsApart x (put_below k b (y ∷ ys)) → (k ≢ x) × IsApart x (y ∷ ys)
    by true e rest is = let h : IsApart x (k ∷ y ∷ ys) = rw e at is in h
    by false e rest is = let h : IsApart x (y ∷ put_below k b ys) = rw e at is in let r = rest h.1 in (r.0, (h.0, r.1))

pub length-put_below : (k b : ℕ) (ys : List ℕ) → length (put_below k b ys) ≡ suc (length ys)
length-put_below k b [] = refl
length-put_below k b (y ∷ ys) = by (nat_eq b y) refl (length-put_below k b ys)
  where
    by : (t : Bool) → nat_eq b y ≡ t → length (put_below k b ys) ≡ suc (length ys) → length (put_below k b (y ∷ ys)) ≡ suc (length (y ∷ ys))
    by true e rest = rw e refl
    by false e rest = rw e (ap suc rest)

-- where none leads to b, nothing changes
stays : (f f' : ℕ → ℕ) (k b : ℕ) → ((x : ℕ) → x ≢ k → f x ≢ b → f' x ≡ f x) → b ≢ 0 → (x : ℕ) (ys : List ℕ) → x ≢ k → IsApart k ys → IsApart b ys → IsLine f x ys → IsLine f' x ys
stays f f' k b rest some x [] other new apart line = rest x other (λ same. some (sym same ∙ line)) ∙ line
stays f f' k b rest some x (y ∷ ys) other new apart line =
    (rest x other (λ same. apart.0 (sym line.0 ∙ same)) ∙ line.0, line.1, line.2, stays f f' k b rest some y ys new.0 new.1 apart.1 line.3)

pub in_line : (f f' : ℕ → ℕ) (k b : ℕ) → k ≢ 0 → f' k ≡ b → ((x : ℕ) → x ≢ k → f x ≡ b → f' x ≡ k) → ((x : ℕ) → x ≢ k → f x ≢ b → f' x ≡ f x)
    → (x : ℕ) (ys : List ℕ) → x ≢ k → IsApart k ys → (IsApart b ys → b ≡ 0) → IsLine f x ys → IsLine f' x (put_below k b ys)
in_line f f' k b some new over rest x [] other apart there line =
    let top : b ≡ 0 = there tt in
    (over x other (line ∙ sym top), some, tt, new ∙ top)
in_line f f' k b some new over rest x (y ∷ ys) other apart there line =
    by (nat_eq b y) refl (λ behind. in_line f f' k b some new over rest y ys apart.0 apart.1 behind line.3)
  where
    by : (t : Bool) → nat_eq b y ≡ t → ((IsApart b ys → b ≡ 0) → IsLine f' y (put_below k b ys)) → IsLine f' x (put_below k b (y ∷ ys))
    by true e shorter =
        let same : b ≡ y = eqb-true b y e in
        let far : IsApart b ys = subst (λ (n : ℕ). IsApart n ys) (sym same) line.2 in
        let high : b ≢ 0 = λ zero. line.1 (sym same ∙ zero) in
        rw e (over x other (line.0 ∙ sym same), some, apart, (new ∙ same, line.1, line.2, stays f f' k b rest high y ys apart.0 apart.1 far line.3))
    by false e shorter =
        let differ : y ≢ b = λ same. eqb-false b y e (sym same) in
        rw e (rest x other (λ same. differ (sym line.0 ∙ same)) ∙ line.0, line.1, apart_below y k b ys (λ same. apart.0 (sym same)) line.2, shorter (λ far. there (differ, far)))

-- Ways to say where one is put.

pub below_none : (k b : ℕ) (ys : List ℕ) → IsApart b ys → put_below k b ys ≡ ys ++ k ∷ []
below_none k b [] apart = refl
below_none k b (y ∷ ys) apart = rw (ne_eqb b y (λ same. apart.0 (sym same))) (ap (λ (zs : List ℕ). y ∷ zs) (below_none k b ys apart.1))

pub above_none : (k b : ℕ) (ys : List ℕ) → IsApart b ys → put_above k b ys ≡ ys ++ k ∷ []
above_none k b [] apart = refl
above_none k b (y ∷ ys) apart = rw (ne_eqb b y (λ same. apart.0 (sym same))) (ap (λ (zs : List ℕ). y ∷ zs) (above_none k b ys apart.1))

pub below_first : (f : ℕ → ℕ) (k x : ℕ) (ys : List ℕ) → IsLine f x ys → put_below k (f x) ys ≡ k ∷ ys
below_first f k x [] line = refl
below_first f k x (y ∷ ys) line = rw (eq-eqb (f x) y line.0) refl

-- just above b is just below the one above it
pub above_is_below : (f g : ℕ → ℕ) (k b : ℕ) → ((x : ℕ) → g (f x) ≡ x) → (x : ℕ) (ys : List ℕ) → x ≢ b → (IsApart b ys → ⊥) → IsLine f x ys → put_below k (f b) ys ≡ put_above k b ys
above_is_below f g k b back x [] other there line = absurd (there tt)
above_is_below f g k b back x (y ∷ ys) other there line =
    by (nat_eq b y) refl (λ differ behind. above_is_below f g k b back y ys differ behind line.3)
  where
    later : nat_eq (f b) y ≡ false
    later = ne_eqb (f b) y (λ same. other (sym (back x) ∙ ap g (line.0 ∙ sym same) ∙ back b))

    by : (t : Bool) → nat_eq b y ≡ t → (y ≢ b → (IsApart b ys → ⊥) → put_below k (f b) ys ≡ put_above k b ys) → put_below k (f b) (y ∷ ys) ≡ put_above k b (y ∷ ys)
    by true e shorter =
        let same : b ≡ y = eqb-true b y e in
        rw (later, e) (ap (λ (zs : List ℕ). y ∷ zs) (subst (λ (n : ℕ). put_below k (f n) ys ≡ k ∷ ys) (sym same) (below_first f k y ys line.3)))
    by false e shorter =
        let differ : y ≢ b = λ same. eqb-false b y e (sym same) in
        rw (later, e) (ap (λ (zs : List ℕ). y ∷ zs) (shorter differ (λ apart. there (differ, apart))))

-- Down again.

turned : (f g : ℕ → ℕ) → ((x : ℕ) → g (f x) ≡ x) → (x : ℕ) (ys : List ℕ) → IsLine f x ys → (n : ℕ) (rs : List ℕ) → walk g n x ≡ rs → (m : ℕ) → m ≡ length ys + suc n
    → walk g m 0 ≡ reverse ys ++ x ∷ rs
turned f g back x [] line n rs known m many =
    let leads : g 0 ≡ x = ap g (sym line) ∙ back x in
    let all : m ≡ suc n = omega (arith, many) in
    ap (λ (k : ℕ). walk g k 0) all ∙ ap (λ (z : ℕ). z ∷ walk g n z) leads ∙ ap (λ (zs : List ℕ). x ∷ zs) known
turned f g back x (y ∷ ys) line n rs known m many =
    let leads : g y ≡ x = ap g (sym line.0) ∙ back x in
    let behind : walk g (suc n) y ≡ x ∷ rs = ap (λ (z : ℕ). z ∷ walk g n z) leads ∙ ap (λ (zs : List ℕ). x ∷ zs) known in
    turned f g back y ys line.3 (suc n) (x ∷ rs) behind m (omega (arith, many))
    ∙ sym (append_assoc (reverse ys) (y ∷ []) (x ∷ rs))
    ∙ ap (λ (zs : List ℕ). zs ++ x ∷ rs) (sym (reverse-append (y ∷ []) ys))

-- the links down lead through a line from its end
pub down : (f g : ℕ → ℕ) → ((x : ℕ) → g (f x) ≡ x) → (ys : List ℕ) → IsLine f 0 ys → walk g (length ys) 0 ≡ reverse ys
down f g back [] line = refl
down f g back (y ∷ ys) line = turned f g back y ys line.3 0 [] refl (length (y ∷ ys)) (omega arith) ∙ sym (reverse-append (y ∷ []) ys)

-- Each number of a line has links, and there are no more numbers than links.

pub within : (f g : ℕ → ℕ) (n : ℕ) → ((x : ℕ) → g (f x) ≡ x) → ((x : ℕ) → n ≤ x → f x ≡ x) → (x : ℕ) (ys : List ℕ) → IsApart x ys → IsLine f x ys → AreIn n ys
within f g n back past x [] apart line = tt
within f g n back past x (y ∷ ys) apart line = (line.1, low (cases_lt y n), within f g n back past y ys line.2 line.3)
  where
    low : (y < n) ⊎ (n ≤ y) → y < n
    low (inl less) = less
    low (inr most) = absurd ((apart_alone f g y back (past y most) x (y ∷ ys) (λ same. apart.0 (sym same)) line).0 refl)

apart_each : (x : ℕ) (ys : List ℕ) → IsApart x ys → AllByRecursion (λ y. nat_eq x y ≡ false) ys
apart_each x [] apart = tt
apart_each x (y ∷ ys) apart = (ne_eqb x y (λ same. apart.0 (sym same)), apart_each x ys apart.1)

distinct : (f : ℕ → ℕ) (x : ℕ) (ys : List ℕ) → IsLine f x ys → IsDistinct nat_eq ys
unfolding IsDistinct
distinct f x [] line = tt
distinct f x (y ∷ ys) line = (apart_each y ys line.2, distinct f y ys line.3)

pub no_more : (f g : ℕ → ℕ) (ys : List ℕ) (n : ℕ) → ((x : ℕ) → g (f x) ≡ x) → ((x : ℕ) → n ≤ x → f x ≡ x) → IsLine f 0 ys → length ys ≤ n
no_more f g ys n back past line = length-le_from_distinct_below ys n (distinct f 0 ys line) (λ q there. by q there (cases_lt q n) (cases_eq q 0))
  where
    by : (q : ℕ) → list_any (nat_eq q) ys ≡ true → (q < n) ⊎ (n ≤ q) → (q ≡ 0) ⊎ (q ≡ 0 → ⊥) → q < n
    by q there (inl less) _ = less
    by q there (inr most) (inl low) = absurd (both_ways _ (apart_any q ys (subst (λ (k : ℕ). IsApart k ys) (sym low) (apart_zero f 0 ys line))) there)
    by q there (inr most) (inr high) = absurd (both_ways _ (apart_any q ys (apart_alone f g q back (past q most) 0 ys (λ same. high (sym same)) line)) there)
