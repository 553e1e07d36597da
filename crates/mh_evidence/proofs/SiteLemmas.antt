-- Sites by their numbers, and at places and links.
use Rattle.std.specs.Prelude.{◌≡◌, ℕ, zero, suc, ◌+◌, ◌-◌, ◌<◌, ◌≤◌, Bool, true, false, ◌&&◌, ◌||◌, ◌==◌, cond, if◌then◌else◌, List, [], ◌∷◌, ◌++◌, filter, length, slice_get, get_or, Option, Some, None, refl}
use Rattle.std.specs.List.{flat_map, list_any}
use Rattle.std.specs.Option.{option_map_or}
use Rattle.std.specs.Str.{bytes_eq}
use Rattle.std.specs.declared.ops.ControlFlow.TheVariants.{Continue, Break}
use Rattle.std.proofs.Common.{◌⊎◌, inl, inr, ap, ◌∙◌, sym, subst, arith}
use Rattle.std.proofs.Math.Bool.{or-false}
use Rattle.std.proofs.lemmas.Bool.Decides.{nat_tests}
use Rattle.std.proofs.lemmas.List.Elements.{filter-append}
use Rattle.std.proofs.lemmas.Option.{slice_get_cases}
use Rattle.mh_base.specs.declared.obj_ref.ObjRef.{ObjRef}
use Rattle.mh_model.specs.declared.act.Act.{Act}
use Rattle.mh_model.specs.declared.object.Fixed.{Fixed}
use Rattle.mh_model.specs.Reference.{same_key}
use Rattle.mh_laws.specs.Costs.{effects}
use Rattle.mh_flow.specs.declared.chain.link.Link.{Link}
use Rattle.mh_flow.specs.Sites.{Site, numbered, sites, through_effects}
use Rattle.mh_verify.specs.declared.refusal.Place.{Place}
use Rattle.mh_verify.specs.Evidence.{is_link_at}
use Rattle.mh_evidence.specs.Counting.{Count, all_counted, counted, counted_at, then_count}
use Rattle.mh_evidence.specs.Spots.{at_link, at_place, with_number}
use Rattle.mh_evidence.proofs.AnyLemmas.{any_filtered, any_joined, any_same}
use Rattle.mh_evidence.proofs.EffectLemmas.{got_left, got_right}

-- One number

abbrev is : ℕ → Site → Bool
is n x = n == x.index

same_number : (n : ℕ) → (n == n) ≡ true
same_number n = grind (arith, nat_tests)

other_number : (n i : ℕ) → n < i → (n == i) ≡ false
other_number n i less = grind (arith, nat_tests, less)

smaller_number : (n i : ℕ) → i < n → (n == i) ≡ false
smaller_number n i less = grind (arith, nat_tests, less)

numbered_none : (k : ObjRef) (f i n : ℕ) (acts : List Act) → n < i → filter (is n) (numbered k f i acts) ≡ []
numbered_none k f i n [] less = refl
numbered_none k f i n (a ∷ acts) less = rw (other_number n i less) (numbered_none k f (suc i) n acts (omega (arith, less)))

through_none : (k : ObjRef) (i n : ℕ) (es : List (List Act)) → n < i → filter (is n) (through_effects k i es) ≡ []
through_none k i n [] less = refl
through_none k i n (e ∷ es) less =
    filter-append (is n) (numbered k i i e) (through_effects k (i + length e) es)
    ∙ ap (λ (t : List Site). t ++ filter (is n) (through_effects k (i + length e) es)) (numbered_none k i i n e less)
    ∙ through_none k (i + length e) n es (omega (arith, less))

abbrev one : ObjRef → ℕ → ℕ → Option Act → List Site
one k n f None = []
one k n f (Some a) = record { key = k; index = n; first = f; act = a } ∷ []

numbered_one : (k : ObjRef) (f i n left : ℕ) (acts : List Act) → n ≡ i + left → filter (is n) (numbered k f i acts) ≡ one k n f (slice_get acts left)
numbered_one k f i n left [] e = refl
numbered_one k f i n zero (a ∷ acts) e =
    let same : n ≡ i = omega (arith, e) in
    subst (λ (m : ℕ). filter (is m) (numbered k f i (a ∷ acts)) ≡ one k m f (Some a)) (sym same) here
  where
    here : filter (is i) (numbered k f i (a ∷ acts)) ≡ one k i f (Some a)
    here =
        rw (same_number i) (ap (λ (t : List Site). record { key = k; index = i; first = f; act = a } ∷ t) (numbered_none k f (suc i) i acts (omega arith)))
numbered_one k f i n (suc left) (a ∷ acts) e = rw (smaller_number n i (omega (arith, e))) (numbered_one k f (suc i) n left acts (omega (arith, e)))

-- What is counted off

abbrev pub found : Count → List Site
found (Break x) = x ∷ []
found (Continue left) = []

pub counted_behind : (k : ObjRef) (n left : ℕ) (xs ys : List (List Act)) → all_counted k n left (xs ++ ys) ≡ then_count (all_counted k n left xs) (λ m. all_counted k n m ys)
counted_behind k n left [] ys = refl
counted_behind k n left (x ∷ xs) ys = by (counted k n left x) (λ m. counted_behind k n m xs ys)
  where
    by : (c : Count) → ((m : ℕ) → all_counted k n m (xs ++ ys) ≡ then_count (all_counted k n m xs) (λ l. all_counted k n l ys)) → then_count c (λ m. all_counted k n m (xs ++ ys)) ≡ then_count (then_count c (λ m. all_counted k n m xs)) (λ m. all_counted k n m ys)
    by (Break x) below = refl
    by (Continue m) below = below m

-- an effect, and those behind it
step : (k : ObjRef) (i n left : ℕ) (acts : List Act) (es : List (List Act)) → n ≡ i + left → (length acts ≤ left → filter (is n) (through_effects k (i + length acts) es) ≡ found (all_counted k n (left - length acts) es)) → (m : Option Act) → ((x : Act) × (left < length acts) × (m ≡ Some x) × (get_or acts left x ≡ x)) ⊎ ((length acts ≤ left) × (m ≡ None)) → one k n i m ++ filter (is n) (through_effects k (i + length acts) es) ≡ found (then_count (counted_at k n left acts m) (λ l. all_counted k n l es))
step k i n left acts es e below (Some a) (inl h) =
    ap (λ (t : List Site). record { key = k; index = n; first = i; act = a } ∷ t) (through_none k (i + length acts) n es (omega (arith, e, h.1)))
    ∙ ap (λ (f : ℕ). record { key = k; index = n; first = f; act = a } ∷ []) (omega (arith, e))
step k i n left acts es e below (Some a) (inr h) = absurd cc
step k i n left acts es e below None (inl h) = absurd cc
step k i n left acts es e below None (inr h) = below h.0

through_counted : (k : ObjRef) (i n left : ℕ) (es : List (List Act)) → n ≡ i + left → filter (is n) (through_effects k i es) ≡ found (all_counted k n left es)
unfolding counted
through_counted k i n left [] e = refl
through_counted k i n left (acts ∷ es) e =
    filter-append (is n) (numbered k i i acts) (through_effects k (i + length acts) es)
    ∙ ap (λ (t : List Site). t ++ filter (is n) (through_effects k (i + length acts) es)) (numbered_one k i i n left acts e)
    ∙ step k i n left acts es e (λ less. through_counted k (i + length acts) n (left - length acts) es (omega (arith, e, less))) (slice_get acts left) (slice_get_cases acts left).1

-- sites are numbered from 1 on
pub number_counted : (p : Fixed) (n : ℕ) → with_number n p ≡ (if n == 0 then [] else found (all_counted p.key n (n - 1) (effects p)))
unfolding with_number
number_counted p zero = through_none p.key 1 0 (effects p) (omega arith)
number_counted p (suc n) =
    through_counted p.key 1 (suc n) (suc n - 1) (effects p) (omega arith)
    ∙ ap (λ (b : Bool). if b then [] else found (all_counted p.key (suc n) (suc n - 1) (effects p))) (sym (smaller_number (suc n) 0 (omega arith)))

-- What is asked of the action with the number is asked of the one before which so many stand

-- the action of the object with this number, from 1 on
abbrev pub action_at : ℕ → Fixed → Option Act
action_at zero p = None
action_at (suc n) p = slice_get (flat_map (λ (e : List Act). e) (effects p)) n

abbrev passes : (Act → Bool) → List Site → Bool
passes q xs = list_any (λ (x : Site). q x.act) xs

through_asked : (q : Act → Bool) (k : ObjRef) (i n left : ℕ) (es : List (List Act)) → n ≡ i + left → passes q (filter (is n) (through_effects k i es)) ≡ option_map_or q (slice_get (flat_map (λ (e : List Act). e) es) left) false
through_asked q k i n left [] e = refl
through_asked q k i n left (acts ∷ es) e =
    ap (passes q) (filter-append (is n) (numbered k i i acts) behind)
    ∙ ap (λ (t : List Site). passes q (t ++ filter (is n) behind)) (numbered_one k i i n left acts e)
    ∙ by (slice_get acts left) refl (slice_get_cases acts left).1 (through_asked q k (i + length acts) n (left - length acts) es)
  where
    behind : List Site
    behind = through_effects k (i + length acts) es

    rest : List Act
    rest = flat_map (λ (x : List Act). x) es

    by : (m : Option Act) → slice_get acts left ≡ m → ((x : Act) × (left < length acts) × (m ≡ Some x) × (get_or acts left x ≡ x)) ⊎ ((length acts ≤ left) × (m ≡ None)) → (n ≡ (i + length acts) + (left - length acts) → passes q (filter (is n) behind) ≡ option_map_or q (slice_get rest (left - length acts)) false) → passes q (one k n i m ++ filter (is n) behind) ≡ option_map_or q (slice_get (acts ++ rest) left) false
    by (Some a) at (inl h) below =
        ap (λ (t : List Site). q a || passes q t) (through_none k (i + length acts) n es (omega (arith, e, h.1)))
        ∙ or-false (q a)
        ∙ ap (λ (o : Option Act). option_map_or q o false) (sym at ∙ sym (got_left acts rest left h.1))
    by (Some a) at (inr h) below = absurd cc
    by None at (inl h) below = absurd cc
    by None at (inr h) below = below (omega (arith, e, h.0)) ∙ ap (λ (o : Option Act). option_map_or q o false) (sym (got_right acts rest left h.0))

pub number_asked : (q : Act → Bool) (n : ℕ) (p : Fixed) → list_any (λ (x : Site). q x.act) (with_number n p) ≡ option_map_or q (action_at n p) false
unfolding with_number
number_asked q zero p = ap (passes q) (through_none p.key 1 0 (effects p) (omega arith))
number_asked q (suc n) p = through_asked q p.key 1 (suc n) n (effects p) (omega arith)

-- All sites of an object have its key

numbered_keyed : (t : ObjRef → Site → Bool) (k : ObjRef) (f i : ℕ) (acts : List Act) → filter (λ (x : Site). t x.key x) (numbered k f i acts) ≡ filter (t k) (numbered k f i acts)
numbered_keyed t k f i [] = refl
numbered_keyed t k f i (a ∷ acts) =
    let x : Site = record { key = k; index = i; first = f; act = a } in
    ap (λ (ys : List Site). cond (t k x) (x ∷ ys) ys) (numbered_keyed t k f (suc i) acts)

through_keyed : (t : ObjRef → Site → Bool) (k : ObjRef) (i : ℕ) (es : List (List Act)) → filter (λ (x : Site). t x.key x) (through_effects k i es) ≡ filter (t k) (through_effects k i es)
through_keyed t k i [] = refl
through_keyed t k i (e ∷ es) =
    filter-append (λ (x : Site). t x.key x) (numbered k i i e) (through_effects k (i + length e) es)
    ∙ ap (λ (ys : List Site). ys ++ filter (λ (x : Site). t x.key x) (through_effects k (i + length e) es)) (numbered_keyed t k i i e)
    ∙ ap (λ (ys : List Site). filter (t k) (numbered k i i e) ++ ys) (through_keyed t k (i + length e) es)
    ∙ sym (filter-append (t k) (numbered k i i e) (through_effects k (i + length e) es))

none : {X : Type 0} (xs : List X) → filter (λ (x : X). false) xs ≡ []
none [] = refl
none (x ∷ xs) = none xs

-- a test of the key goes before all others
front : (b : Bool) (n : ℕ) (p : Fixed) → filter (λ (x : Site). b && n == x.index) (sites p) ≡ (if b then with_number n p else [])
unfolding with_number
front true n p = refl
front false n p = none (sites p)

pub key_number : (k : ObjRef) (n : ℕ) (p : Fixed) → filter (λ (x : Site). same_key k x.key && n == x.index) (sites p) ≡ (if same_key k p.key then with_number n p else [])
key_number k n p =
    through_keyed (λ r x. same_key k r && n == x.index) p.key 1 (effects p) ∙ front (same_key k p.key) n p

pub link_number : (l : Link) (p : Fixed) → at_link l p ≡ (if same_key l.key p.key then with_number l.index p else [])
unfolding at_link
link_number l p = key_number l.key l.index p

pub place_number : (q : Place) (p : Fixed) → at_place q p ≡ (if bytes_eq q.group p.key.group && q.object == p.key.number then with_number q.index p else [])
unfolding at_place
place_number q p =
    through_keyed (λ k x. bytes_eq q.group k.group && q.object == k.number && q.index == x.index) p.key 1 (effects p)
    ∙ front (bytes_eq q.group p.key.group && q.object == p.key.number) q.index p

-- what is asked of the actions at a link is asked object by object
pub any_at_link : (f : Site → Bool) (l : Link) (ps : List Fixed) → list_any f (filter (is_link_at l) (flat_map sites ps)) ≡ list_any (λ p. list_any f (at_link l p)) ps
unfolding at_link
any_at_link f l ps =
    any_filtered (is_link_at l) f (flat_map sites ps)
    ∙ any_joined (λ x. is_link_at l x && f x) sites ps
    ∙ any_same (λ p. list_any (λ x. is_link_at l x && f x) (sites p)) (λ p. list_any f (filter (is_link_at l) (sites p))) (λ p. sym (any_filtered (is_link_at l) f (sites p))) ps
