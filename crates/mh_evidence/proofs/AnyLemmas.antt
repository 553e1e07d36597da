-- Whether any of a list passes a test.
use Rattle.std.specs.Prelude.{◌≡◌, Bool, true, false, ◌&&◌, ◌||◌, cond, List, [], ◌∷◌, ◌++◌, filter, map, Option, Some, None, refl}
use Rattle.std.specs.Cmp.Derive.{both_true}
use Rattle.std.specs.List.{cons_option, filter_map, find, flat_map, list_any, list_all}
use Rattle.std.specs.Option.{option_map_or, option_or}
use Rattle.std.proofs.Common.{ap, ◌∙◌, sym}
use Rattle.std.proofs.Math.Bool.{or-true}
use Rattle.std.proofs.lemmas.List.Folds.{find-append, list_any-append}
use Rattle.mh_model.proofs.ListLemmas.{and_left, and_right}

-- four tests in turn
or_four : (a b c d : Bool) → ((a || b) || (c || d)) ≡ ((a || c) || (b || d))
or_four true b c d = refl
or_four false true c d = sym (or-true c)
or_four false false c d = refl

pub found_in_two : {X : Type 0} (p : X → Bool) (xs ys : List X) → find p (xs ++ ys) ≡ option_or (find p xs) (find p ys)
found_in_two p xs ys = find-append p xs ys

pub any_in_two : {X : Type 0} (p : X → Bool) (xs ys : List X) → list_any p (xs ++ ys) ≡ (list_any p xs || list_any p ys)
any_in_two p xs ys = list_any-append p xs ys

pub any_same : {X : Type 0} (p q : X → Bool) → ((x : X) → p x ≡ q x) → (xs : List X) → list_any p xs ≡ list_any q xs
any_same p q same [] = refl
any_same p q same (x ∷ xs) = λ i. same x i || any_same p q same xs i

-- the same of those that pass another test
pub any_same_where : {X : Type 0} (is p q : X → Bool) → ((x : X) → is x ≡ true → p x ≡ q x) → (xs : List X) → list_all is xs ≡ true → list_any p xs ≡ list_any q xs
any_same_where is p q same [] all = refl
any_same_where is p q same (x ∷ xs) all =
    λ i. same x (and_left (is x) (list_all is xs) all) i || any_same_where is p q same xs (and_right (is x) (list_all is xs) all) i

pub any_none : {X : Type 0} (xs : List X) → list_any (λ (x : X). false) xs ≡ false
any_none [] = refl
any_none (x ∷ xs) = any_none xs

pub any_filtered : {X : Type 0} (is p : X → Bool) (xs : List X) → list_any p (filter is xs) ≡ list_any (λ x. is x && p x) xs
any_filtered is p [] = refl
any_filtered {X} is p (x ∷ xs) = by (is x) (any_filtered is p xs)
  where
    by : (b : Bool) → list_any p (filter is xs) ≡ list_any (λ y. is y && p y) xs → list_any p (cond b (x ∷ filter is xs) (filter is xs)) ≡ ((b && p x) || list_any (λ y. is y && p y) xs)
    by true more = ap (λ (c : Bool). p x || c) more
    by false more = more

pub any_mapped : {X Y : Type 0} (p : Y → Bool) (f : X → Y) (xs : List X) → list_any p (map f xs) ≡ list_any (λ x. p (f x)) xs
any_mapped p f [] = refl
any_mapped p f (x ∷ xs) = ap (λ (c : Bool). p (f x) || c) (any_mapped p f xs)

pub any_given : {X Y : Type 0} (p : Y → Bool) (f : X → Option Y) (xs : List X) → list_any p (filter_map f xs) ≡ list_any (λ x. option_map_or p (f x) false) xs
any_given p f [] = refl
any_given {X} {Y} p f (x ∷ xs) = by (f x) (any_given p f xs)
  where
    by : (m : Option Y) → list_any p (filter_map f xs) ≡ list_any (λ (z : X). option_map_or p (f z) false) xs → list_any p (cons_option m (filter_map f xs)) ≡ (option_map_or p m false || list_any (λ (z : X). option_map_or p (f z) false) xs)
    by None rest = rest
    by (Some y) rest = ap (λ (b : Bool). p y || b) rest

pub any_joined : {X Y : Type 0} (p : Y → Bool) (f : X → List Y) (xs : List X) → list_any p (flat_map f xs) ≡ list_any (λ x. list_any p (f x)) xs
any_joined p f [] = refl
any_joined p f (x ∷ xs) = list_any-append p (f x) (flat_map f xs) ∙ ap (λ (c : Bool). list_any p (f x) || c) (any_joined p f xs)

-- each has one among what all of them have

pub any_more : {X Y : Type 0} (p : X → Y → Bool) (y : Y) (ys : List Y) (xs : List X) → list_all (λ x. list_any (p x) ys) xs ≡ true → list_all (λ x. list_any (p x) (y ∷ ys)) xs ≡ true
any_more p y ys [] all = refl
any_more {X} p y ys (x ∷ xs) all =
    both_true
    (ap (λ (b : Bool). p x y || b) (and_left (list_any (p x) ys) (list_all (λ (z : X). list_any (p z) ys) xs) all) ∙ or-true (p x y))
    (any_more p y ys xs (and_right (list_any (p x) ys) (list_all (λ (z : X). list_any (p z) ys) xs) all))

pub each_one : {X Y : Type 0} (p : X → Y → Bool) (f : X → Y) → ((x : X) → p x (f x) ≡ true) → (xs : List X) → list_all (λ x. list_any (p x) (map f xs)) xs ≡ true
each_one p f its [] = refl
each_one p f its (x ∷ xs) =
    both_true (ap (λ (b : Bool). b || list_any (p x) (map f xs)) (its x)) (any_more p (f x) (map f xs) xs (each_one p f its xs))

-- what all ask in front of a test
pub any_and : {X : Type 0} (a : Bool) (p : X → Bool) (xs : List X) → list_any (λ x. a && p x) xs ≡ (a && list_any p xs)
any_and true p xs = refl
any_and false p xs = any_none xs

any_either : {X : Type 0} (p q : X → Bool) (xs : List X) → (list_any p xs || list_any q xs) ≡ list_any (λ x. p x || q x) xs
any_either p q [] = refl
any_either p q (x ∷ xs) =
    or_four (p x) (list_any p xs) (q x) (list_any q xs) ∙ ap (λ (b : Bool). (p x || q x) || b) (any_either p q xs)

-- two lists are gone over the one way or the other
pub any_crossed : {X Y : Type 0} (p : X → Y → Bool) (xs : List X) (ys : List Y) → list_any (λ x. list_any (p x) ys) xs ≡ list_any (λ y. list_any (λ x. p x y) xs) ys
any_crossed {X} {Y} p [] ys = sym (any_none ys)
any_crossed {X} {Y} p (x ∷ xs) ys =
    ap (λ (b : Bool). list_any (p x) ys || b) (any_crossed p xs ys) ∙ any_either (p x) (λ (y : Y). list_any (λ (z : X). p z y) xs) ys
