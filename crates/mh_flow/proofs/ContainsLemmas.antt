-- Members of lists: of a list behind a front, of what passes a test, of lists joined.
use Rattle.std.proofs.Common.{◌≡◌, ◌⊎◌, inl, inr, suc, zero, Bool, true, false, ◌&&◌, List, [], ◌∷◌, ◌++◌, refl, sym, subst, arith}
use Rattle.std.proofs.lemmas.List.Elements.{Contains-append_left, Contains-append_right, Contains-append_cases}
use Rattle.std.specs.List.{Contains, flat_map, list_all}
use Rattle.mh_model.proofs.ListLemmas.{both_empty}

-- Tests.

pub both : (a b : Bool) → a ≡ true → b ≡ true → (a && b) ≡ true
both true b p q = q
both false b p q = p

pub halves : (a b : Bool) → (a && b) ≡ true → (a ≡ true) × (b ≡ true)
halves true b h = (refl, h)
halves false b h = cc

-- Members.

pub no_member : {X : Type 0} (x : X) → Contains [] x → ⊥
no_member x (k, h, e) = omega arith

pub here : {X : Type 0} (x : X) (xs : List X) → Contains (x ∷ xs) x
here x xs = (zero, omega arith, refl)

pub behind : {X : Type 0} (y : X) (xs : List X) (x : X) → Contains xs x → Contains (y ∷ xs) x
behind y xs x (k, h, e) = (suc k, omega arith, e)

-- a member of a list that is not empty is its first or one behind it
pub first_or_behind : {X : Type 0} (y : X) (xs : List X) (x : X) → Contains (y ∷ xs) x → (y ≡ x) ⊎ Contains xs x
first_or_behind y xs x (zero, h, e) = inl e
first_or_behind y xs x (suc k, h, e) = inr (k, omega arith, e)

pub in_joined : {X Y : Type 0} (f : X → List Y) (xs : List X) (x : X) (y : Y) → Contains xs x → Contains (f x) y → Contains (flat_map f xs) y
in_joined f [] x y h k = absurd (no_member x h)
in_joined {X} {Y} f (z ∷ xs) x y h k = by (first_or_behind z xs x h) (λ m. in_joined f xs x y m k)
  where
    by : (z ≡ x) ⊎ Contains xs x → (Contains xs x → Contains (flat_map f xs) y) → Contains (f z ++ flat_map f xs) y
    by (inl e) ih = Contains-append_left (f z) (flat_map f xs) y (subst (λ w. Contains (f w) y) (sym e) k)
    by (inr m) ih = Contains-append_right (f z) (flat_map f xs) y (ih m)

-- the one from which a member of joined lists comes
pub joined_from : {X Y : Type 0} (f : X → List Y) (xs : List X) (y : Y) → Contains (flat_map f xs) y → (x : X) × Contains xs x × Contains (f x) y
joined_from f [] y h = absurd (no_member y h)
joined_from {X} {Y} f (x ∷ xs) y h = by (Contains-append_cases (f x) (flat_map f xs) y h) (joined_from f xs y)
  where
    by : Contains (f x) y ⊎ Contains (flat_map f xs) y → (Contains (flat_map f xs) y → (z : X) × Contains xs z × Contains (f z) y) → (z : X) × Contains (x ∷ xs) z × Contains (f z) y
    by (inl m) ih = (x, here x xs, m)
    by (inr m) ih = let found = ih m in (found.0, behind x xs found.0 found.1, found.2)

pub all_of : {X : Type 0} (p : X → Bool) (xs : List X) (x : X) → list_all p xs ≡ true → Contains xs x → p x ≡ true
all_of p [] x h k = absurd (no_member x k)
all_of {X} p (y ∷ xs) x h k = by (halves (p y) (list_all p xs) h) (first_or_behind y xs x k) (λ a m. all_of p xs x a m)
  where
    by : (p y ≡ true) × (list_all p xs ≡ true) → (y ≡ x) ⊎ Contains xs x → (list_all p xs ≡ true → Contains xs x → p x ≡ true) → p x ≡ true
    by two (inl e) ih = subst (λ z. p z ≡ true) e two.0
    by two (inr m) ih = ih two.1 m

-- what every member passes
pub all_by_members : {X : Type 0} (p : X → Bool) (xs : List X) → ((x : X) → Contains xs x → p x ≡ true) → list_all p xs ≡ true
all_by_members p [] f = refl
all_by_members p (x ∷ xs) f = both (p x) (list_all p xs) (f x (here x xs)) (all_by_members p xs (λ y m. f y (behind x xs y m)))

pub empty_joined : {X Y : Type 0} (f : X → List Y) (xs : List X) (x : X) → flat_map f xs ≡ [] → Contains xs x → f x ≡ []
empty_joined {X} {Y} f xs x h k = by (f x) refl
  where
    by : (ys : List Y) → f x ≡ ys → ys ≡ []
    by [] e = refl
    by (y ∷ ys) e = absurd (no_member y (subst (λ zs. Contains zs y) h (in_joined f xs x y k (subst (λ zs. Contains zs y) (sym e) (here y ys)))))

pub no_members : {X : Type 0} (xs : List X) → ((x : X) → Contains xs x → ⊥) → xs ≡ []
no_members [] f = refl
no_members (x ∷ xs) f = absurd (f x (here x xs))

-- Lists joined that come to none.

pub nil_parts : {X : Type 0} (xs ys : List X) → xs ++ ys ≡ [] → (xs ≡ []) × (ys ≡ [])
nil_parts [] ys h = (refl, h)
nil_parts (x ∷ xs) ys h = cc

-- where each one that passes gives none
pub joined_none : {X Y : Type 0} (f : X → List Y) (p : X → Bool) → ((x : X) → p x ≡ true → f x ≡ []) → (xs : List X) → list_all p xs ≡ true → flat_map f xs ≡ []
joined_none f p k [] h = refl
joined_none f p k (x ∷ xs) h =
    let two = halves (p x) (list_all p xs) h in
    both_empty (f x) (flat_map f xs) (k x two.0) (joined_none f p k xs two.1)

-- where each one that gives none passes
pub all_where_none : {X Y : Type 0} (f : X → List Y) (p : X → Bool) → ((x : X) → f x ≡ [] → p x ≡ true) → (xs : List X) → flat_map f xs ≡ [] → list_all p xs ≡ true
all_where_none f p k [] h = refl
all_where_none f p k (x ∷ xs) h =
    let two = nil_parts (f x) (flat_map f xs) h in
    both (p x) (list_all p xs) (k x two.0) (all_where_none f p k xs two.1)
