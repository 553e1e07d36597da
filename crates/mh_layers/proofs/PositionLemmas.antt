-- The places of members of a list.
use Rattle.std.specs.Prelude.{◌≡◌, ℕ, zero, suc, Bool, true, false, ◌||◌, cond, ◌==◌, List, [], ◌∷◌, ◌++◌, slice_get, position, Option, Some, None, refl}
use Rattle.std.specs.List.{list_any}
use Rattle.std.specs.Option.{is_some, option_map}
use Rattle.std.proofs.Common.{inl, inr, ap, ◌∙◌, sym, subst, true≢false}
use Rattle.std.proofs.lemmas.Bool.Decides.{Decides-eqb}
use Rattle.mh_model.proofs.ListLemmas.{some_same}
use Rattle.indexmap.specs.IndexSet.{insert_key, insert_all}
use Rattle.mh_laws.specs.Each.{Among}
use Rattle.mh_flow.proofs.IndexLemmas.{position_next}

-- what stands at the place passes
pub position_got : {X : Type 0} (t : X → Bool) (xs : List X) (n : ℕ) → position t xs ≡ Some n → (x : X) × (slice_get xs n ≡ Some x) × (t x ≡ true)
position_got t [] n h = absurd cc
position_got {X} t (x ∷ xs) n h = by (t x) refl (position t xs) refl (position_got t xs) (sym (position_next t x xs) ∙ h)
  where
    by : (b : Bool) → t x ≡ b → (o : Option ℕ) → position t xs ≡ o → ((m : ℕ) → position t xs ≡ Some m → (y : X) × (slice_get xs m ≡ Some y) × (t y ≡ true)) → cond b (Some 0) (option_map suc o) ≡ Some n → (y : X) × (slice_get (x ∷ xs) n ≡ Some y) × (t y ≡ true)
    by true e o at ih g = subst (λ (k : ℕ). (y : X) × (slice_get (x ∷ xs) k ≡ Some y) × (t y ≡ true)) (some_same g) (x, refl, e)
    by false e None at ih g = absurd cc
    by false e (Some m) at ih g = subst (λ (k : ℕ). (y : X) × (slice_get (x ∷ xs) k ≡ Some y) × (t y ≡ true)) (some_same g) (ih m at)

-- where one passes, there is a place
pub position_there : {X : Type 0} (t : X → Bool) (xs : List X) → list_any t xs ≡ true → (n : ℕ) × (position t xs ≡ Some n)
position_there t [] h = absurd cc
position_there {X} t (x ∷ xs) h = let k = by (t x) h (position_there t xs) in (k.0, position_next t x xs ∙ k.1)
  where
    by : (b : Bool) → (b || list_any t xs) ≡ true → (list_any t xs ≡ true → (n : ℕ) × (position t xs ≡ Some n)) → (n : ℕ) × (cond b (Some 0) (option_map suc (position t xs)) ≡ Some n)
    by true g ih = (0, refl)
    by false g ih = let m = ih g in (suc m.0, ap (option_map suc) m.1)

-- and only there
pub any_position : {X : Type 0} (t : X → Bool) (xs : List X) → list_any t xs ≡ is_some (position t xs)
any_position t [] = refl
any_position {X} t (x ∷ xs) = by (t x) (position t xs) (any_position t xs) ∙ ap is_some (sym (position_next t x xs))
  where
    by : (b : Bool) (o : Option ℕ) → list_any t xs ≡ is_some o → (b || list_any t xs) ≡ is_some (cond b (Some 0) (option_map suc o))
    by true o more = refl
    by false None more = more
    by false (Some n) more = more

-- what is found by a test that tells what is one
pub record TellsOne {X : Type 0} (same : X → X → Bool) : Type 0 where
  pub itself : (a : X) → same a a ≡ true
  pub one : (a b : X) → same a b ≡ true → a ≡ b

pub position_is : {X : Type 0} (same : X → X → Bool) → TellsOne same → (xs : List X) (a : X) (n : ℕ) → position (same a) xs ≡ Some n → slice_get xs n ≡ Some a
position_is same tells xs a n h = let x = position_got (same a) xs n h in x.1 ∙ ap Some (sym (tells.one a x.0 x.2))

-- places tell what is one
pub positions_same : {X : Type 0} (same : X → X → Bool) → TellsOne same → (xs : List X) (a b : X) (m n : ℕ) → position (same a) xs ≡ Some m → position (same b) xs ≡ Some n → (m == n) ≡ same a b
positions_same {X} same tells xs a b m n ha hb = by (same a b) refl (m == n) refl
  where
    by : (c : Bool) → same a b ≡ c → (d : Bool) → (m == n) ≡ d → d ≡ c
    by true e true f = refl
    by false e false f = refl
    by true e false f =
        let at : m ≡ n = some_same (sym ha ∙ ap (λ (z : X). position (same z) xs) (tells.one a b e) ∙ hb) in
        absurd (true≢false (sym ((Decides-eqb m n).1 at) ∙ f))
    by false e true f =
        let at : m ≡ n = (Decides-eqb m n).0 f in
        let there : a ≡ b = some_same (sym (position_is same tells xs a m ha) ∙ ap (slice_get xs) at ∙ position_is same tells xs b n hb) in
        absurd (true≢false (sym (tells.itself a) ∙ ap (same a) there ∙ e))

-- Members put in one by one

any_left : {X : Type 0} (t : X → Bool) (xs ys : List X) → list_any t xs ≡ true → list_any t (xs ++ ys) ≡ true
any_left t [] ys h = absurd cc
any_left {X} t (x ∷ xs) ys h = by (t x) h (any_left t xs ys)
  where
    by : (b : Bool) → (b || list_any t xs) ≡ true → (list_any t xs ≡ true → list_any t (xs ++ ys) ≡ true) → (b || list_any t (xs ++ ys)) ≡ true
    by true g ih = refl
    by false g ih = ih g

any_last : {X : Type 0} (t : X → Bool) (xs : List X) (x : X) → t x ≡ true → list_any t (xs ++ x ∷ []) ≡ true
any_last t [] x h = ap (λ (b : Bool). b || false) h
any_last t (y ∷ xs) x h = by (t y) (any_last t xs x h)
  where
    by : (b : Bool) → list_any t (xs ++ x ∷ []) ≡ true → (b || list_any t (xs ++ x ∷ [])) ≡ true
    by true more = refl
    by false more = more

pub kept_one : {X : Type 0} (same : X → X → Bool) (t : X → Bool) (ks : List X) (x : X) → list_any t ks ≡ true → list_any t (insert_key same ks x) ≡ true
kept_one {X} same t ks x h = by (list_any (same x) ks)
  where
    by : (b : Bool) → list_any t (cond b ks (ks ++ x ∷ [])) ≡ true
    by true = h
    by false = any_left t ks (x ∷ []) h

pub put_one : {X : Type 0} (same : X → X → Bool) → ((a : X) → same a a ≡ true) → (ks : List X) (x : X) → list_any (same x) (insert_key same ks x) ≡ true
put_one {X} same itself ks x = by (list_any (same x) ks) refl
  where
    by : (b : Bool) → list_any (same x) ks ≡ b → list_any (same x) (cond b ks (ks ++ x ∷ [])) ≡ true
    by true e = e
    by false e = any_last (same x) ks x (itself x)

kept_all : {X : Type 0} (same : X → X → Bool) (t : X → Bool) (ks xs : List X) → list_any t ks ≡ true → list_any t (insert_all same ks xs) ≡ true
kept_all same t ks [] h = h
kept_all same t ks (x ∷ xs) h = kept_all same t (insert_key same ks x) xs (kept_one same t ks x h)

pub put_all : {X : Type 0} (same : X → X → Bool) → ((a : X) → same a a ≡ true) → (ks xs : List X) (x : X) → Among xs x → list_any (same x) (insert_all same ks xs) ≡ true
put_all same itself ks [] x there = absurd cc
put_all {X} same itself ks (y ∷ xs) x (inl e) =
    kept_all same (same x) (insert_key same ks y) xs (subst (λ (z : X). list_any (same x) (insert_key same ks z) ≡ true) (sym e) (put_one same itself ks x))
put_all same itself ks (y ∷ xs) x (inr more) = put_all same itself (insert_key same ks y) xs x more

-- Each once

pub no_left : (a b : Bool) → (a || b) ≡ false → a ≡ false
no_left true b e = absurd cc
no_left false b e = refl

pub no_right : (a b : Bool) → (a || b) ≡ false → b ≡ false
no_right true b e = absurd cc
no_right false b e = e

abbrev pub AreOnce : {X : Type 0} → (X → X → Bool) → List X → Type 0
AreOnce same [] = Unit {0}
AreOnce same (x ∷ xs) = (list_any (λ y. same y x) xs ≡ false) × AreOnce same xs

other : {X : Type 0} (same : X → X → Bool) (y x : X) (zs : List X) (m : ℕ) → slice_get zs m ≡ Some x → list_any (λ z. same z y) zs ≡ false → same x y ≡ false
other same y x [] m g none = absurd cc
other {X} same y x (z ∷ zs) zero g none = subst (λ (w : X). same w y ≡ false) (some_same g) (no_left (same z y) (list_any (λ w. same w y) zs) none)
other same y x (z ∷ zs) (suc m) g none = other same y x zs m g (no_right (same z y) (list_any (λ w. same w y) zs) none)

-- each stands where it is found
pub once_at : {X : Type 0} (same : X → X → Bool) → TellsOne same → (xs : List X) → AreOnce same xs → (n : ℕ) (x : X) → slice_get xs n ≡ Some x → position (same x) xs ≡ Some n
once_at same tells [] once n x h = absurd cc
once_at {X} same tells (y ∷ xs) once zero x h =
    let it : same x y ≡ true = subst (λ (z : X). same z y ≡ true) (some_same h) (tells.itself y) in
    position_next (same x) y xs ∙ ap (λ (b : Bool). cond b (Some 0) (option_map suc (position (same x) xs))) it
once_at same tells (y ∷ xs) once (suc n) x h =
    let behind : position (same x) xs ≡ Some n = once_at same tells xs once.1 n x h in
    let not_here : same x y ≡ false = other same y x xs n h once.0 in
    position_next (same x) y xs ∙ (λ i. cond (not_here i) (Some 0) (option_map suc (behind i)))

behind_none : {X : Type 0} (t : X → Bool) (x : X) (zs : List X) → list_any t zs ≡ false → t x ≡ false → list_any t (zs ++ x ∷ []) ≡ false
behind_none t x [] h e = ap (λ (b : Bool). b || false) e
behind_none t x (z ∷ zs) h e = λ i. no_left (t z) (list_any t zs) h i || behind_none t x zs (no_right (t z) (list_any t zs) h) e i

once_pushed : {X : Type 0} (same : X → X → Bool) (xs : List X) (x : X) → AreOnce same xs → list_any (same x) xs ≡ false → AreOnce same (xs ++ x ∷ [])
once_pushed same [] x once none = (refl, tt)
once_pushed same (y ∷ xs) x once none =
    (behind_none (λ z. same z y) x xs once.0 (no_left (same x y) (list_any (same x) xs) none), once_pushed same xs x once.1 (no_right (same x y) (list_any (same x) xs) none))

pub once_inserted : {X : Type 0} (same : X → X → Bool) (xs : List X) (x : X) → AreOnce same xs → AreOnce same (insert_key same xs x)
once_inserted {X} same xs x once = by (list_any (same x) xs) refl
  where
    by : (b : Bool) → list_any (same x) xs ≡ b → AreOnce same (cond b xs (xs ++ x ∷ []))
    by true e = once
    by false e = once_pushed same xs x once e

pub once_all : {X : Type 0} (same : X → X → Bool) (ks xs : List X) → AreOnce same ks → AreOnce same (insert_all same ks xs)
once_all same ks [] once = once
once_all same ks (x ∷ xs) once = once_all same (insert_key same ks x) xs (once_inserted same ks x once)
