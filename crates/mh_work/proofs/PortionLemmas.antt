-- Portions, against the list of items that they stand for.
use Rattle.std.specs.Prelude.{◌≡◌, ℕ, zero, suc, ◌+◌, ◌<◌, ◌==◌, true, false, nat_lt, List, [], ◌∷◌, ◌++◌, length, drop, slice_get, Some, refl}
use Rattle.std.specs.List.{list_all}
use Rattle.std.proofs.Common.{ap, sym, subst, ◌∙◌, arith, get_or, Option, None, IfSome}
use Rattle.std.proofs.lemmas.List.{drop_all}
use Rattle.mh_model.specs.declared.act.Act.{Act}
use Rattle.mh_model.specs.declared.item.Item.{Item}
use Rattle.mh_model.specs.declared.item.Item.TheVariants as item
use Rattle.mh_model.specs.Step.{is_empty}
use Rattle.mh_model.proofs.ListLemmas.{and_left, and_right}
use Rattle.mh_work.specs.declared.portion.Portion.{Portion}
use Rattle.mh_work.specs.declared.portion.Portion.TheVariants as portion
use Rattle.mh_work.specs.declared.portion.Front.{Front}
use Rattle.mh_work.specs.declared.portion.Front.TheVariants as front
use Rattle.mh_model.specs.Items.{acts}
use Rattle.mh_work.specs.Portions.{AreLive, IsFront, left_of, flat, is_live, goes_on, passed_first}

-- within an effect an action stands at each place
opened : (effect : List Act) (n : ℕ) → nat_lt n (length effect) ≡ true → (a : Act) × (drop n effect ≡ a ∷ drop (n + 1) effect)
opened [] n h = let bad : n < 0 = grind (arith, h) in absurd (omega arith)
opened (a ∷ others) zero h = (a, refl)
opened (a ∷ others) (suc n) h =
    let next : suc n + 1 ≡ suc (n + 1) = grind arith in
    rw next (opened others n (grind (arith, h)))

-- with no action behind this one, nothing is left behind it
ended : (effect : List Act) (n : ℕ) → nat_lt (n + 1) (length effect) ≡ false → drop (n + 1) effect ≡ []
ended effect n h = drop_all (n + 1) effect (grind (arith, h))

counted : (fs : List Portion) → (length fs == 0) ≡ is_empty fs
counted [] = refl
counted (f ∷ fs) = grind arith

-- live portions hold nothing only if there are none
flat_none : (fs : List Portion) → AreLive fs → is_empty fs ≡ is_empty (flat fs)
flat_none [] h = refl
flat_none (portion.One i ∷ fs) h = refl
flat_none (portion.Acts effect n ∷ fs) h =
    let hit = opened effect n (and_left (nat_lt n (length effect)) (list_all is_live fs) h) in
    rw hit.1 refl

pub flat_empty : (fs : List Portion) → AreLive fs → (length fs == 0) ≡ is_empty (flat fs)
flat_empty fs h = counted fs ∙ flat_none fs h

first_of_both : (xs ys : List Item) (i : Item) → Some i ≡ slice_get xs 0 → Some i ≡ slice_get (xs ++ ys) 0
first_of_both [] ys i h = absurd cc
first_of_both (x ∷ xs) ys i h = h

pub flat_passed : (fs : List Portion) → AreLive fs → goes_on fs ≡ true → flat (passed_first fs) ≡ drop 1 (flat fs)
flat_passed [] h more = refl
flat_passed (portion.One i ∷ fs) h more = absurd cc
flat_passed (portion.Acts effect n ∷ fs) h more =
    let hit = opened effect n (and_left (nat_lt n (length effect)) (list_all is_live fs) h) in
    rw hit.1 refl

pub live_passed : (fs : List Portion) → AreLive fs → goes_on fs ≡ true → AreLive (passed_first fs)
live_passed [] h more = refl
live_passed (portion.One i ∷ fs) h more = absurd cc
live_passed (portion.Acts effect n ∷ fs) h more = rw more (and_right (nat_lt n (length effect)) (list_all is_live fs) h)

pub flat_ended : (fs : List Portion) → AreLive fs → goes_on fs ≡ false → flat (drop 1 (passed_first fs)) ≡ drop 1 (flat fs)
flat_ended [] h more = refl
flat_ended (portion.One i ∷ fs) h more = refl
flat_ended (portion.Acts effect n ∷ fs) h more =
    let hit = opened effect n (and_left (nat_lt n (length effect)) (list_all is_live fs) h) in
    rw (hit.1, ended effect n more) refl

pub live_ended : (fs : List Portion) → AreLive fs → AreLive (drop 1 (passed_first fs))
live_ended [] h = refl
live_ended (f ∷ fs) h = and_right (is_live f) (list_all is_live fs) h

-- what is known of portions whose first item is passed over
pub ruleset passing = (flat_passed, live_passed, flat_ended, live_ended)

-- What comes first, looked at without copying an action

first_there : (effect : List Act) (n : ℕ) (a : Act) → slice_get effect n ≡ Some a → slice_get (acts (drop n effect)) 0 ≡ Some (item.Act a)
first_there [] n a h = absurd cc
first_there (x ∷ xs) zero a h = let same : x ≡ a = cc in ap (λ (y : Act). Some (item.Act y)) same
first_there (x ∷ xs) (suc n) a h = first_there xs n a h

pub front_in_acts : (f : Portion) (effect copy : List Act) (n : ℕ) → f ≡ portion.Acts effect n → copy ≡ effect → is_live f ≡ true → IsFront (Some (front.Act copy n)) (left_of f)
front_in_acts f effect copy n is same live = rw (is, same) (ap is_live (sym is) ∙ live, λ a h. first_there effect n a h)

front_of_both : (x : Front) (xs ys : List Item) → IsFront (Some x) xs → IsFront (Some x) (xs ++ ys)
front_of_both (front.Act effect n) xs ys h = (h.0, λ a at. sym (first_of_both xs ys (item.Act a) (sym (h.1 a at))))
front_of_both (front.Item i) xs ys h = sym (first_of_both xs ys i (sym h))

pub front_in_first : (fs : List Portion) (f : Portion) (x : Front) → slice_get fs 0 ≡ Some f → IsFront (Some x) (left_of f) → IsFront (Some x) (flat fs)
front_in_first [] f x at h = absurd cc
front_in_first (y ∷ fs) f x at h =
    let same : f ≡ y = cc in
    front_of_both x (left_of y) (flat fs) (subst (λ (z : Portion). IsFront (Some x) (left_of z)) same h)

got : (xs : List Act) (n : ℕ) (a : Act) → nat_lt n (length xs) ≡ true → a ≡ get_or xs n a → slice_get xs n ≡ Some a
got [] n a h is = let bad : n < 0 = grind (arith, h) in absurd (omega arith)
got (x ∷ xs) zero a h is = ap (λ (y : Act). Some y) (sym is)
got (x ∷ xs) (suc n) a h is = got xs n a (grind (arith, h)) is

-- the action that stands at the place is the first item
pub front_act : (m : Option Front) (is : List Item) (effect acts : List Act) (n : ℕ) (a : Act) → IsFront m is → m ≡ Some (front.Act effect n) → acts ≡ effect → a ≡ get_or acts n a → slice_get is 0 ≡ Some (item.Act a)
front_act m is effect acts n a h e same at =
    let live = subst (λ (x : Option Front). IsFront x is) e h in
    live.1 a (got effect n a live.0 (at ∙ ap (λ (xs : List Act). get_or xs n a) same))

-- what holds of what was found
pub some_also : {X : Type 0} (P Q : X → Type 0) (m : Option X) → ((x : X) → P x → Q x) → IfSome m P → IfSome m Q
some_also P Q None f h = tt
some_also P Q (Some x) f h = f x h
