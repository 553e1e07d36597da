-- Places in lists: the first place at which a test passes, what stands there, and lists one behind the other.
use Rattle.std.specs.Prelude.{◌≡◌, ◌⊎◌, ℕ, zero, suc, ◌+◌, ◌<◌, ◌≤◌, Bool, true, false, ◌||◌, not, nat_lt, cond, List, [], ◌∷◌, ◌++◌, length, slice_get, position, Option, Some, None, refl}
use Rattle.std.specs.List.{Contains, cons_option, filter_map, find, list_any, position_or_len}
use Rattle.std.specs.Map.{lookup}
use Rattle.std.specs.Option.{option_map, option_or}
use Rattle.std.proofs.Common.{ap, ◌∙◌, sym, subst, arith, inl, inr}
use Rattle.std.proofs.lemmas.Bool.{ltb-true, ltb-false, lt-ltb, le-ltb}
use Rattle.mh_model.proofs.ListLemmas.{some_same}
use Rattle.mh_flow.proofs.ContainsLemmas.{no_member, here, behind, first_or_behind}

-- the first place at which a test passes, by recursion

abbrev pub place : {X : Type 0} → (X → Bool) → List X → Option ℕ
place p [] = None
place p (x ∷ xs) = cond (p x) (Some 0) (option_map (λ (n : ℕ). suc n) (place p xs))

pub position_place : {X : Type 0} (p : X → Bool) (xs : List X) → position p xs ≡ place p xs
position_place p [] = refl
position_place {X} p (x ∷ xs) = by (p x) (position_place p xs)
  where
    count : (n : ℕ) → 1 + n ≡ suc n
    count n = omega arith

    behind_it : (n m : ℕ) (b : Bool) → nat_lt n m ≡ b → cond (nat_lt (suc n) (suc m)) (Some (suc n)) None ≡ option_map (λ (i : ℕ). suc i) (cond b (Some n) None)
    behind_it n m true e = let less : n < m = ltb-true n m e in ap (λ (b : Bool). cond b (Some (suc n)) None) (lt-ltb (suc n) (suc m) (omega (arith, less)))
    behind_it n m false e = let past : m ≤ n = ltb-false n m e in ap (λ (b : Bool). cond b (Some (suc n)) None) (le-ltb (suc n) (suc m) (omega (arith, past)))

    by : (b : Bool) → position p xs ≡ place p xs → cond (nat_lt (cond (not b) (1 + position_or_len p xs) 0) (suc (length xs))) (Some (cond (not b) (1 + position_or_len p xs) 0)) None ≡ cond b (Some 0) (option_map (λ (n : ℕ). suc n) (place p xs))
    by true ih = ap (λ (b : Bool). cond b (Some 0) None) (lt-ltb 0 (suc (length xs)) (omega arith))
    by false ih =
        ap (λ (n : ℕ). cond (nat_lt n (suc (length xs))) (Some n) None) (count (position_or_len p xs))
        ∙ behind_it (position_or_len p xs) (length xs) (nat_lt (position_or_len p xs) (length xs)) refl
        ∙ ap (option_map (λ (i : ℕ). suc i)) ih

-- what stands at the first place
pub record IsPlaced {X : Type 0} (p : X → Bool) (xs : List X) (i : ℕ) : Type 0 where
  pub member : X
  pub at : slice_get xs i ≡ Some member
  pub passes : p member ≡ true
  pub found : find p xs ≡ Some member

pub placed : {X : Type 0} (p : X → Bool) (xs : List X) (i : ℕ) → place p xs ≡ Some i → IsPlaced p xs i
placed p [] i e = absurd cc
placed {X} p (x ∷ xs) i e = by (p x) refl (placed p xs) e
  where
    later : (o : Option ℕ) → p x ≡ false → place p xs ≡ o → ((j : ℕ) → place p xs ≡ Some j → IsPlaced p xs j) → option_map (λ (n : ℕ). suc n) o ≡ Some i → IsPlaced p (x ∷ xs) i
    later None is at ih e = absurd cc
    later (Some j) is at ih e =
        let found = ih j at in
        subst (λ (n : ℕ). IsPlaced p (x ∷ xs) n) (some_same e) (record { member = found.member; at = found.at; passes = found.passes; found = rw is found.found })

    by : (b : Bool) → p x ≡ b → ((j : ℕ) → place p xs ≡ Some j → IsPlaced p xs j) → cond b (Some 0) (option_map (λ (n : ℕ). suc n) (place p xs)) ≡ Some i → IsPlaced p (x ∷ xs) i
    by true is ih e = subst (λ (n : ℕ). IsPlaced p (x ∷ xs) n) (some_same e) (record { member = x; at = refl; passes = is; found = rw is refl })
    by false is ih e = later (place p xs) is refl ih e

-- what is found has a place
pub place_of : {X : Type 0} (p : X → Bool) (xs : List X) (y : X) → find p xs ≡ Some y → (i : ℕ) × (place p xs ≡ Some i)
place_of p [] y e = absurd cc
place_of {X} p (x ∷ xs) y e = by (p x) (place_of p xs y) e
  where
    by : (b : Bool) → (find p xs ≡ Some y → (i : ℕ) × (place p xs ≡ Some i)) → cond b (Some x) (find p xs) ≡ Some y → (i : ℕ) × (cond b (Some 0) (option_map (λ (n : ℕ). suc n) (place p xs)) ≡ Some i)
    by true ih e = (0, refl)
    by false ih e = let found = ih e in (suc found.0, ap (option_map (λ (n : ℕ). suc n)) found.1)

-- what passes and is a member is found, itself or another before it
pub finds : {X : Type 0} (p : X → Bool) (xs : List X) (x : X) → p x ≡ true → Contains xs x → (y : X) × (find p xs ≡ Some y)
finds p [] x is m = absurd (no_member x m)
finds {X} p (z ∷ xs) x is m = by (p z) refl (first_or_behind z xs x m) (finds p xs x is)
  where
    by : (b : Bool) → p z ≡ b → (z ≡ x) ⊎ Contains xs x → (Contains xs x → (y : X) × (find p xs ≡ Some y)) → (y : X) × (cond b (Some z) (find p xs) ≡ Some y)
    by true e m ih = (z, refl)
    by false e (inl same) ih = let never : true ≡ false = sym (subst (λ (w : X). p w ≡ true) (sym same) is) ∙ e in absurd cc
    by false e (inr k) ih = ih k

-- what is found is a member that passes
pub found_member : {X : Type 0} (p : X → Bool) (xs : List X) (y : X) → find p xs ≡ Some y → (p y ≡ true) × Contains xs y
found_member p [] y e = absurd cc
found_member {X} p (x ∷ xs) y e = by (p x) refl (found_member p xs y) e
  where
    by : (b : Bool) → p x ≡ b → (find p xs ≡ Some y → (p y ≡ true) × Contains xs y) → cond b (Some x) (find p xs) ≡ Some y → (p y ≡ true) × Contains (x ∷ xs) y
    by true is ih e = subst (λ (z : X). (p z ≡ true) × Contains (x ∷ xs) z) (some_same e) (is, here x xs)
    by false is ih e = let k = ih e in (k.0, behind x xs y k.1)

-- Two lists

pub place_joined : {X : Type 0} (p : X → Bool) (xs ys : List X) → place p (xs ++ ys) ≡ option_or (place p xs) (option_map (λ (j : ℕ). length xs + j) (place p ys))
place_joined p [] ys = none_before (place p ys)
  where
    none_before : (o : Option ℕ) → o ≡ option_map (λ (j : ℕ). 0 + j) o
    none_before None = refl
    none_before (Some n) = let same : n ≡ 0 + n = omega arith in ap Some same
place_joined {X} p (x ∷ xs) ys = by (p x) (place_joined p xs ys)
  where
    moved : (n m : ℕ) → suc (n + m) ≡ suc n + m
    moved n m = omega arith

    each : (n : ℕ) (a b : Option ℕ) → option_map (λ (i : ℕ). suc i) (option_or a (option_map (λ (j : ℕ). n + j) b)) ≡ option_or (option_map (λ (i : ℕ). suc i) a) (option_map (λ (j : ℕ). suc n + j) b)
    each n None None = refl
    each n None (Some j) = ap Some (moved n j)
    each n (Some i) b = refl

    by : (b : Bool) → place p (xs ++ ys) ≡ option_or (place p xs) (option_map (λ (j : ℕ). length xs + j) (place p ys)) → cond b (Some 0) (option_map (λ (i : ℕ). suc i) (place p (xs ++ ys))) ≡ option_or (cond b (Some 0) (option_map (λ (i : ℕ). suc i) (place p xs))) (option_map (λ (j : ℕ). suc (length xs) + j) (place p ys))
    by true ih = refl
    by false ih = ap (option_map (λ (i : ℕ). suc i)) ih ∙ each (length xs) (place p xs) (place p ys)

pub get_left : {X : Type 0} (xs ys : List X) (i : ℕ) (x : X) → slice_get xs i ≡ Some x → slice_get (xs ++ ys) i ≡ Some x
get_left [] ys i x e = absurd cc
get_left (z ∷ xs) ys zero x e = e
get_left (z ∷ xs) ys (suc i) x e = get_left xs ys i x e

pub get_right : {X : Type 0} (xs ys : List X) (i n : ℕ) → n ≡ length xs + i → slice_get (xs ++ ys) n ≡ slice_get ys i
get_right [] ys i n e = let same : n ≡ i = omega (arith, e) in ap (slice_get ys) same
get_right {X} (x ∷ xs) ys i zero e = absurd (omega (arith, e))
get_right {X} (x ∷ xs) ys i (suc n) e = get_right xs ys i n (omega (arith, e))

-- Members by place

-- the one member of a list
pub lone : {X : Type 0} (x y : X) → Contains (x ∷ []) y → x ≡ y
lone {X} x y m = by (first_or_behind x [] y m)
  where
    by : (x ≡ y) ⊎ Contains [] y → x ≡ y
    by (inl e) = e
    by (inr k) = absurd (no_member y k)

pub get_member : {X : Type 0} (xs : List X) (i : ℕ) (x : X) → slice_get xs i ≡ Some x → Contains xs x
get_member [] i x e = absurd cc
get_member {X} (y ∷ xs) zero x e = subst (λ (z : X). Contains (y ∷ xs) z) (some_same e) (here y xs)
get_member (y ∷ xs) (suc i) x e = behind y xs x (get_member xs i x e)

pub member_get : {X : Type 0} (xs : List X) (x : X) → Contains xs x → (i : ℕ) × (slice_get xs i ≡ Some x)
member_get [] x m = absurd (no_member x m)
member_get {X} (y ∷ xs) x m = by (first_or_behind y xs x m) (member_get xs x)
  where
    by : (y ≡ x) ⊎ Contains xs x → (Contains xs x → (i : ℕ) × (slice_get xs i ≡ Some x)) → (i : ℕ) × (slice_get (y ∷ xs) i ≡ Some x)
    by (inl same) ih = (0, ap Some same)
    by (inr k) ih = let found = ih k in (suc found.0, found.1)

-- a test of members

pub any_member : {X : Type 0} (p : X → Bool) (xs : List X) (x : X) → p x ≡ true → Contains xs x → list_any p xs ≡ true
any_member p [] x is m = absurd (no_member x m)
any_member {X} p (y ∷ xs) x is m = by (p y) refl (first_or_behind y xs x m) (any_member p xs x is)
  where
    by : (b : Bool) → p y ≡ b → (y ≡ x) ⊎ Contains xs x → (Contains xs x → list_any p xs ≡ true) → (b || list_any p xs) ≡ true
    by true e m ih = refl
    by false e (inl same) ih = let never : true ≡ false = sym (subst (λ (w : X). p w ≡ true) (sym same) is) ∙ e in absurd cc
    by false e (inr k) ih = ih k

pub member_any : {X : Type 0} (p : X → Bool) (xs : List X) → list_any p xs ≡ true → (x : X) × (p x ≡ true) × Contains xs x
member_any p [] e = absurd cc
member_any {X} p (y ∷ xs) e = by (p y) refl (member_any p xs) e
  where
    by : (b : Bool) → p y ≡ b → (list_any p xs ≡ true → (x : X) × (p x ≡ true) × Contains xs x) → (b || list_any p xs) ≡ true → (x : X) × (p x ≡ true) × Contains (y ∷ xs) x
    by true is ih e = (y, is, here y xs)
    by false is ih e = let found = ih e in (found.0, found.1, behind y xs found.0 found.2)

pub any_found : {X : Type 0} (p : X → Bool) (xs : List X) → list_any p xs ≡ true → (x : X) × (find p xs ≡ Some x)
any_found p xs e = let some = member_any p xs e in finds p xs some.0 some.1 some.2

-- the value under a key is that of the first entry

pub lookup_found : {K X : Type 0} (p : K → Bool) (es : List (K × X)) (e : K × X) → find (λ (x : K × X). p x.0) es ≡ Some e → lookup p es ≡ Some e.1
lookup_found p [] e h = absurd cc
lookup_found {K} {X} p (x ∷ es) e h = by (p x.0) (lookup_found p es e) h
  where
    by : (b : Bool) → (find (λ (y : K × X). p y.0) es ≡ Some e → lookup p es ≡ Some e.1) → cond b (Some x) (find (λ (y : K × X). p y.0) es) ≡ Some e → cond b (Some x.1) (lookup p es) ≡ Some e.1
    by true ih h = ap (λ (y : K × X). Some y.1) (some_same h)
    by false ih h = ih h

pub found_lookup : {K X : Type 0} (p : K → Bool) (es : List (K × X)) (x : X) → lookup p es ≡ Some x → (k : K) × (p k ≡ true) × Contains es (k, x)
found_lookup p [] x h = absurd cc
found_lookup {K} {X} p (e ∷ es) x h = by (p e.0) refl (found_lookup p es x) h
  where
    by : (b : Bool) → p e.0 ≡ b → (lookup p es ≡ Some x → (k : K) × (p k ≡ true) × Contains es (k, x)) → cond b (Some e.1) (lookup p es) ≡ Some x → (k : K) × (p k ≡ true) × Contains (e ∷ es) (k, x)
    by true is ih h = (e.0, is, subst (λ (y : X). Contains (e ∷ es) (e.0, y)) (some_same h) (here e es))
    by false is ih h = let found = ih h in (found.0, found.1, behind e es (found.0, x) found.2)

-- what is kept of a list
pub kept_member : {X Y : Type 0} (f : X → Option Y) (xs : List X) (x : X) (y : Y) → Contains xs x → f x ≡ Some y → Contains (filter_map f xs) y
kept_member f [] x y m e = absurd (no_member x m)
kept_member {X} {Y} f (z ∷ xs) x y m e = by (f z) refl (first_or_behind z xs x m) (λ k. kept_member f xs x y k e)
  where
    by : (o : Option Y) → f z ≡ o → (z ≡ x) ⊎ Contains xs x → (Contains xs x → Contains (filter_map f xs) y) → Contains (cons_option o (filter_map f xs)) y
    by o is (inl same) ih = let one : o ≡ Some y = sym is ∙ ap f same ∙ e in subst (λ (p : Option Y). Contains (cons_option p (filter_map f xs)) y) (sym one) (here y (filter_map f xs))
    by None is (inr k) ih = ih k
    by (Some w) is (inr k) ih = behind w (filter_map f xs) y (ih k)

pub kept_from : {X Y : Type 0} (f : X → Option Y) (xs : List X) (y : Y) → Contains (filter_map f xs) y → (x : X) × Contains xs x × (f x ≡ Some y)
kept_from f [] y m = absurd (no_member y m)
kept_from {X} {Y} f (z ∷ xs) y m = by (f z) refl m (kept_from f xs y)
  where
    later : Contains (filter_map f xs) y → (Contains (filter_map f xs) y → (x : X) × Contains xs x × (f x ≡ Some y)) → (x : X) × Contains (z ∷ xs) x × (f x ≡ Some y)
    later m ih = let found = ih m in (found.0, behind z xs found.0 found.1, found.2)

    cases : (w : Y) → f z ≡ Some w → (w ≡ y) ⊎ Contains (filter_map f xs) y → (Contains (filter_map f xs) y → (x : X) × Contains xs x × (f x ≡ Some y)) → (x : X) × Contains (z ∷ xs) x × (f x ≡ Some y)
    cases w is (inl same) ih = (z, here z xs, is ∙ ap Some same)
    cases w is (inr k) ih = later k ih

    by : (o : Option Y) → f z ≡ o → Contains (cons_option o (filter_map f xs)) y → (Contains (filter_map f xs) y → (x : X) × Contains xs x × (f x ≡ Some y)) → (x : X) × Contains (z ∷ xs) x × (f x ≡ Some y)
    by None is m ih = later m ih
    by (Some w) is m ih = cases w is (first_or_behind w (filter_map f xs) y m) ih
