-- Truth values and lists: what holds of all lists.
use Rattle.std.specs.Prelude.{◌≡◌, Bool, true, false, ◌&&◌, not, cond, List, [], ◌∷◌, ◌++◌, filter, Option, Some, None, refl}
use Rattle.std.specs.Cmp.Derive.{both_true}
use Rattle.std.specs.List.{find, list_all}
use Rattle.std.specs.Option.{option_map_or}
use Rattle.std.proofs.Common.{ap, ◌∙◌, sym, subst}
use Rattle.std.proofs.lemmas.List.Folds.{list_all-append}
use Rattle.mh_model.specs.Step.{is_empty}

-- Truth

pub and_left : (a b : Bool) → (a && b) ≡ true → a ≡ true
and_left true b e = refl
and_left false b e = e

pub and_right : (a b : Bool) → (a && b) ≡ true → b ≡ true
and_right true b e = e
and_right false b e = absurd cc

-- Lists

pub all_left : {X : Type 0} (p : X → Bool) (xs ys : List X) → list_all p (xs ++ ys) ≡ true → list_all p xs ≡ true
all_left p xs ys h = and_left (list_all p xs) (list_all p ys) (sym (list_all-append p xs ys) ∙ h)

pub all_right : {X : Type 0} (p : X → Bool) (xs ys : List X) → list_all p (xs ++ ys) ≡ true → list_all p ys ≡ true
all_right p xs ys h = and_right (list_all p xs) (list_all p ys) (sym (list_all-append p xs ys) ∙ h)

pub all_joined : {X : Type 0} (p : X → Bool) (xs ys : List X) → list_all p xs ≡ true → list_all p ys ≡ true → list_all p (xs ++ ys) ≡ true
all_joined p xs ys h k = list_all-append p xs ys ∙ both_true h k

pub all_both : {X : Type 0} (p q : X → Bool) (xs : List X) → list_all p xs ≡ true → list_all q xs ≡ true → list_all (λ x. p x && q x) xs ≡ true
all_both p q [] h k = refl
all_both p q (x ∷ xs) h k =
    both_true (both_true (and_left (p x) (list_all p xs) h) (and_left (q x) (list_all q xs) k)) (all_both p q xs (and_right (p x) (list_all p xs) h) (and_right (q x) (list_all q xs) k))

-- a test that follows from another
pub all_follow : {X : Type 0} (p q : X → Bool) → ((x : X) → p x ≡ true → q x ≡ true) → (xs : List X) → list_all p xs ≡ true → list_all q xs ≡ true
all_follow p q follows [] h = refl
all_follow p q follows (x ∷ xs) h = both_true (follows x (and_left (p x) (list_all p xs) h)) (all_follow p q follows xs (and_right (p x) (list_all p xs) h))

pub filter_all : {X : Type 0} (p : X → Bool) (xs : List X) → list_all p xs ≡ true → filter p xs ≡ xs
filter_all p [] h = refl
filter_all {X} p (x ∷ xs) h =
    ap (λ (b : Bool). cond b (x ∷ filter p xs) (filter p xs)) (and_left (p x) (list_all p xs) h) ∙ ap (λ (t : List X). x ∷ t) (filter_all p xs (and_right (p x) (list_all p xs) h))

pub filter_none : {X : Type 0} (p : X → Bool) (xs : List X) → list_all (λ x. not (p x)) xs ≡ true → filter p xs ≡ []
filter_none p [] h = refl
filter_none {X} p (x ∷ xs) h = by (p x) (and_left (not (p x)) (list_all (λ y. not (p y)) xs) h) (filter_none p xs (and_right (not (p x)) (list_all (λ y. not (p y)) xs) h))
  where
    by : (b : Bool) → not b ≡ true → filter p xs ≡ [] → cond b (x ∷ filter p xs) (filter p xs) ≡ []
    by true e none = absurd cc
    by false e none = none

pub some_same : {X : Type 0} {x y : X} → Some x ≡ Some y → x ≡ y
some_same {X} {x} {y} e = ap (λ (m : Option X). option_map_or (λ (z : X). z) m x) e

-- what is found passes the test, and whatever all members pass
pub found : {X : Type 0} (p q : X → Bool) (xs : List X) (y : X) → list_all q xs ≡ true → find p xs ≡ Some y → (p y ≡ true) × (q y ≡ true)
found p q [] y h e = absurd cc
found {X} p q (x ∷ xs) y h e = by (p x) refl (and_left (q x) (list_all q xs) h) (λ rest. found p q xs y (and_right (q x) (list_all q xs) h) rest) e
  where
    by : (b : Bool) → p x ≡ b → q x ≡ true → (find p xs ≡ Some y → (p y ≡ true) × (q y ≡ true)) → cond b (Some x) (find p xs) ≡ Some y → (p y ≡ true) × (q y ≡ true)
    by true is good below e = subst (λ (z : X). (p z ≡ true) × (q z ≡ true)) (some_same e) (is, good)
    by false is good below e = below e

-- Lists without members

pub empty_is : {X : Type 0} (xs : List X) → is_empty xs ≡ true → xs ≡ []
empty_is [] h = refl
empty_is (x ∷ xs) h = absurd cc

pub is_empty_of : {X : Type 0} (xs : List X) → xs ≡ [] → is_empty xs ≡ true
is_empty_of [] e = refl
is_empty_of (x ∷ xs) e = absurd cc

pub empty_left : {X : Type 0} (xs ys : List X) → xs ++ ys ≡ [] → xs ≡ []
empty_left [] ys e = refl
empty_left (x ∷ xs) ys e = absurd cc

pub empty_right : {X : Type 0} (xs ys : List X) → xs ++ ys ≡ [] → ys ≡ []
empty_right [] ys e = e
empty_right (x ∷ xs) ys e = absurd cc

pub both_empty : {X : Type 0} (xs ys : List X) → xs ≡ [] → ys ≡ [] → xs ++ ys ≡ []
both_empty [] ys e f = f
both_empty (x ∷ xs) ys e f = absurd cc
