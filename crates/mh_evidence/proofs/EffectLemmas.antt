-- Lists that stand one behind another: what stands at a place.
use Rattle.std.specs.Prelude.{◌≡◌, ◌≤◌, ◌<◌, ◌+◌, ◌-◌, ℕ, zero, suc, nat_lt, List, [], ◌∷◌, ◌++◌, drop, length, slice_get, slice_index_or, take, Some, unwrap_or, refl}
use Rattle.std.specs.List.{flat_map, sum_by}
use Rattle.std.specs.Option.{is_some}
use Rattle.std.proofs.Common.{arith, ap, ◌∙◌, sym}
use Rattle.std.proofs.Math.Seq.{take-append-add}
use Rattle.std.proofs.lemmas.List.{at_drop_more, take-append-le}
use Rattle.std.proofs.lemmas.List.Concat.{length-flat_map}
use Rattle.std.proofs.lemmas.List.Sums.{sum_by-append, sum_by-cons}
use Rattle.std.proofs.lemmas.Option.{slice_get_read, unwrap_or-slice_get}
use Rattle.mh_group.specs.declared.attribute.Attribute.{Attribute}
use Rattle.mh_group.specs.declared.attribute.Attribute.TheVariants as attribute
use Rattle.mh_model.specs.declared.act.Act.{Act}
use Rattle.mh_model.specs.declared.object.Fixed.{Fixed}
use Rattle.mh_model.specs.Property.{as_effect, held}
use Rattle.mh_laws.specs.Costs.{effect_at, effects, first_slot, link_effect, on_close_down, on_start_up}
use Rattle.mh_laws.specs.Ways.{slots_of}
use Rattle.mh_layers.specs.Cycle.{first_number}
use Rattle.mh_evidence.specs.Putting.{acts_before}

pub is_within : {X : Type 0} (xs : List X) (n : ℕ) → is_some (slice_get xs n) ≡ nat_lt n (length xs)
is_within [] n = grind arith
is_within (x ∷ xs) zero = grind arith
is_within (x ∷ xs) (suc n) = is_within xs n ∙ more n (length xs)
  where
    more : (a b : ℕ) → nat_lt a b ≡ nat_lt (suc a) (suc b)
    more a b = grind arith

pub got_left : {X : Type 0} (xs ys : List X) (n : ℕ) → n < length xs → slice_get (xs ++ ys) n ≡ slice_get xs n
got_left [] ys n less = absurd (omega (arith, less))
got_left (x ∷ xs) ys zero less = refl
got_left (x ∷ xs) ys (suc n) less = got_left xs ys n (omega (arith, less))

pub got_right : {X : Type 0} (xs ys : List X) (n : ℕ) → length xs ≤ n → slice_get (xs ++ ys) n ≡ slice_get ys (n - length xs)
got_right {X} [] ys n far = ap (λ (m : ℕ). slice_get ys m) (same n)
  where
    same : (m : ℕ) → m ≡ m - 0
    same m = omega arith
got_right (x ∷ xs) ys zero far = absurd (omega (arith, far))
got_right {X} (x ∷ xs) ys (suc n) far = got_right xs ys n (omega (arith, far)) ∙ ap (λ (m : ℕ). slice_get ys m) (same n (length xs))
  where
    same : (m k : ℕ) → m - k ≡ suc m - suc k
    same m k = omega arith

-- the lists from one of them on are that one and those behind it
pub joined_next : {X Y : Type 0} (f : X → List Y) (xs : List X) (i : ℕ) (x : X) → i < length xs → x ≡ slice_index_or xs i x → flat_map f (drop i xs) ≡ f x ++ flat_map f (drop (i + 1) xs)
joined_next {X} {Y} f xs i x less e =
    at_drop_more (λ (t : List X). flat_map f t) xs i x less ∙ ap (λ (z : X). f z ++ flat_map f (drop (i + 1) xs)) (sym e)

-- it stands in the list that is next
pub found_next : {X Y : Type 0} (f : X → List Y) (xs : List X) (i left : ℕ) (x : X) (ys : List Y) (y : Y) → i < length xs → x ≡ slice_index_or xs i x → ys ≡ f x → left < length ys → y ≡ slice_index_or ys left y → Some y ≡ slice_get (flat_map f (drop i xs)) left
found_next {X} {Y} f xs i left x ys y less e same within is =
    sym (slice_get_read ys (length ys) left y refl within is)
    ∙ sym (got_left ys (flat_map f (drop (i + 1) xs)) left within)
    ∙ ap (λ (zs : List Y). slice_get (zs ++ flat_map f (drop (i + 1) xs)) left) same
    ∙ ap (λ (zs : List Y). slice_get zs left) (sym (joined_next f xs i x less e))

-- or behind it
pub found_behind : {X Y : Type 0} (f : X → List Y) (xs : List X) (i left : ℕ) (x : X) (ys : List Y) → i < length xs → x ≡ slice_index_or xs i x → ys ≡ f x → length ys ≤ left → slice_get (flat_map f (drop (i + 1) xs)) (left - length ys) ≡ slice_get (flat_map f (drop i xs)) left
found_behind {X} {Y} f xs i left x ys less e same far =
    sym (got_right ys (flat_map f (drop (i + 1) xs)) left far)
    ∙ ap (λ (zs : List Y). slice_get (zs ++ flat_map f (drop (i + 1) xs)) left) same
    ∙ ap (λ (zs : List Y). slice_get zs left) (sym (joined_next f xs i x less e))

-- Effects by their numbers

behind_three : (n : ℕ) → first_slot + n ≡ suc (suc (suc n))
behind_three n = omega arith

pub slot_effect : (p : Fixed) (n : ℕ) → effect_at p (first_slot + n) ≡ unwrap_or (slice_get (slots_of p) n) []
slot_effect p n =
    ap (λ (m : ℕ). effect_at p m) (behind_three n) ∙ sym (unwrap_or-slice_get (slots_of p) n [])

-- How many actions stand before an effect

abbrev acts : Attribute → Fixed → List Act
acts a p = as_effect (held a p.properties)

abbrev count : Attribute → Fixed → ℕ
count a p = length (acts a p)

abbrev summed : List (List Act) → ℕ
summed es = sum_by (λ (e : List Act). length e) es

next : (e : List Act) (es : List (List Act)) (n : ℕ) → summed es ≡ n → summed (e ∷ es) ≡ length e + n
next e es n so_far = sum_by-cons (λ (x : List Act). length x) e es ∙ ap (λ (m : ℕ). length e + m) so_far

none_more : (a : ℕ) → a + 0 ≡ a
none_more a = omega arith

last : (e : List Act) → summed (e ∷ []) ≡ length e
last e = next e [] 0 refl ∙ none_more (length e)

pub before_start_up : (p : Fixed) → acts_before on_start_up p ≡ 0
unfolding acts_before
before_start_up p = refl

pub before_close_down : (p : Fixed) → acts_before on_close_down p ≡ count attribute.OnStartUp p
unfolding acts_before
before_close_down p = last (acts attribute.OnStartUp p)

pub before_link : (p : Fixed) → acts_before link_effect p ≡ count attribute.OnStartUp p + count attribute.OnCloseDown p
unfolding acts_before
before_link p =
    next (acts attribute.OnStartUp p) (acts attribute.OnCloseDown p ∷ []) (count attribute.OnCloseDown p) (last (acts attribute.OnCloseDown p))

before_more : (p : Fixed) (es : List (List Act)) → summed (acts attribute.OnStartUp p ∷ acts attribute.OnCloseDown p ∷ acts attribute.LinkEffect p ∷ es) ≡ count attribute.OnStartUp p + count attribute.OnCloseDown p + count attribute.LinkEffect p + summed es
before_more p es =
    next (acts attribute.OnStartUp p) (acts attribute.OnCloseDown p ∷ acts attribute.LinkEffect p ∷ es) (count attribute.OnCloseDown p + (count attribute.LinkEffect p + summed es))
    (next (acts attribute.OnCloseDown p) (acts attribute.LinkEffect p ∷ es) (count attribute.LinkEffect p + summed es) (next (acts attribute.LinkEffect p) es (summed es) refl))
    ∙ grouped (count attribute.OnStartUp p) (count attribute.OnCloseDown p) (count attribute.LinkEffect p) (summed es)
  where
    grouped : (a b c d : ℕ) → a + (b + (c + d)) ≡ a + b + c + d
    grouped a b c d = omega arith

pub before_slots : (p : Fixed) → acts_before first_slot p ≡ count attribute.OnStartUp p + count attribute.OnCloseDown p + count attribute.LinkEffect p
unfolding acts_before
before_slots p = before_more p [] ∙ none_more (count attribute.OnStartUp p + count attribute.OnCloseDown p + count attribute.LinkEffect p)

pub before_slot : (p : Fixed) (n : ℕ) → acts_before (first_slot + n) p ≡ acts_before first_slot p + summed (take n (slots_of p))
unfolding acts_before
before_slot p n =
    ap (λ (m : ℕ). summed (take m (effects p))) (behind_three n)
    ∙ before_more p (take n (slots_of p))
    ∙ ap (λ (m : ℕ). m + summed (take n (slots_of p))) (sym (before_slots p))

pub first_is : (n : ℕ) (p : Fixed) → first_number n p ≡ suc (acts_before n p)
unfolding acts_before
first_is n p = ap suc (length-flat_map (λ (e : List Act). e) (take n (effects p)))

-- the first so many of lists that stand one behind another

pub taken_within : {X Y : Type 0} (f : X → List Y) (g : Y → ℕ) (xs : List X) (i n : ℕ) (x : X) (ys : List Y) → i < length xs → x ≡ slice_index_or xs i x → ys ≡ f x → n ≤ length ys → sum_by g (take n (flat_map f (drop i xs))) ≡ sum_by g (take n ys)
taken_within {X} {Y} f g xs i n x ys less e same within =
    ap (λ (zs : List Y). sum_by g (take n zs)) (joined_next f xs i x less e ∙ ap (λ (zs : List Y). zs ++ flat_map f (drop (i + 1) xs)) (sym same))
    ∙ ap (λ (zs : List Y). sum_by g zs) (take-append-le n ys (flat_map f (drop (i + 1) xs)) within)

pub taken_behind : {X Y : Type 0} (f : X → List Y) (g : Y → ℕ) (xs : List X) (i n : ℕ) (x : X) (ys : List Y) → i < length xs → x ≡ slice_index_or xs i x → ys ≡ f x → length ys ≤ n → sum_by g (take n (flat_map f (drop i xs))) ≡ sum_by g ys + sum_by g (take (n - length ys) (flat_map f (drop (i + 1) xs)))
taken_behind {X} {Y} f g xs i n x ys less e same far =
    ap (λ (zs : List Y). sum_by g (take n zs)) (joined_next f xs i x less e ∙ ap (λ (zs : List Y). zs ++ flat_map f (drop (i + 1) xs)) (sym same))
    ∙ ap (λ (m : ℕ). sum_by g (take m (ys ++ rest))) (whole n (length ys) far)
    ∙ ap (λ (zs : List Y). sum_by g zs) (take-append-add ys rest (n - length ys))
    ∙ sum_by-append g ys (take (n - length ys) rest)
  where
    rest : List Y
    rest = flat_map f (drop (i + 1) xs)

    whole : (a b : ℕ) → b ≤ a → a ≡ b + (a - b)
    whole a b h = omega (arith, h)
