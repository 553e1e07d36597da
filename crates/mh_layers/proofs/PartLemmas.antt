-- A node that is alone is on no cycle, and parts that pass the test are such parts.
use Rattle.std.specs.Prelude.{◌≡◌, ◌<◌, ◌≤◌, ◌+◌, ◌-◌, ◌&&◌, ◌||◌, not, ℕ, zero, suc, Bool, true, false, List, [], ◌∷◌, length, nat_le, nat_lt, slice_get, refl}
use Rattle.std.specs.List.{Contains, list_all, range_with_len}
use Rattle.std.specs.Option.{option_map_or}
use Rattle.std.proofs.Common.{arith, ap, ◌∙◌, sym, leb-true}
use Rattle.std.proofs.lemmas.Bool.{ltb-true}
use Rattle.mh_model.proofs.ListLemmas.{and_left, and_right}
use Rattle.mh_paths.specs.declared.graph.Arrow.{Arrow}
use Rattle.mh_paths.specs.declared.graph.Graph.{Graph}
use Rattle.mh_paths.specs.Chains.{Chain, NoCycle, arrows_of, begin, onward}
use Rattle.mh_laws.specs.Each.{Each}
use Rattle.mh_laws.proofs.EachLemmas.{among_all, among_range, each_contained}
use Rattle.mh_layers.specs.Ranked.{AreParts, all_ahead, are_ahead, is_alone, leads_ahead, part_in}

-- ON NO CYCLE

-- what leads to a node, by way of others, is of no later part
not_behind : (g : Graph) (parts : List ℕ) (alone : List Bool) → AreParts g parts alone → (n : ℕ) (c : List Arrow) (goal : ℕ) → Chain g (arrows_of g n) c goal → part_in parts n ≤ part_in parts goal
not_behind g parts alone are n c goal (begin a there) = are.later n a there
not_behind g parts alone are n c goal (onward d u a chain there) = let h = not_behind g parts alone are n d u chain in let k = are.later u a there in omega (arith, h, k)

-- and of an earlier one, if the node is alone
before : (g : Graph) (parts : List ℕ) (alone : List Bool) → AreParts g parts alone → (n : ℕ) (c : List Arrow) (goal : ℕ) → Chain g (arrows_of g n) c goal → is_alone alone goal ≡ true → part_in parts n < part_in parts goal
before g parts alone are n c goal (begin a there) h = are.alone n a there h
before g parts alone are n c goal (onward d u a chain there) h = let k = not_behind g parts alone are n d u chain in let l = are.alone u a there h in omega (arith, k, l)

never_less : (x : ℕ) → x < x → ⊥
never_less x h = absurd (omega (arith, h))

no_way : (g : Graph) (parts : List ℕ) (alone : List Bool) → AreParts g parts alone → (n : ℕ) → is_alone alone n ≡ true → NoCycle g n
no_way g parts alone are n h c chain = never_less (part_in parts n) (before g parts alone are n c n chain h)

pub passed_by : (g : Graph) (parts : List ℕ) (alone : List Bool) → AreParts g parts alone → (n : ℕ) (passed : Bool) → passed ≡ is_alone alone n → passed ≡ true → NoCycle g n
passed_by g parts alone are n passed is h = no_way g parts alone are n (sym is ∙ h)

-- FROM THE TEST

ahead_later : (from to : ℕ) (b : Bool) → (nat_lt from to || (nat_le from to && not b)) ≡ true → from ≤ to
ahead_later from to b h = by (nat_lt from to) refl (nat_le from to) refl h
  where
    by : (x : Bool) → nat_lt from to ≡ x → (y : Bool) → nat_le from to ≡ y → (x || (y && not b)) ≡ true → from ≤ to
    by true e y f h = let k = ltb-true from to e in omega (arith, k)
    by false e true f h = leb-true from to f
    by false e false f h = cc

ahead_alone : (from to : ℕ) (b : Bool) → (nat_lt from to || (nat_le from to && not b)) ≡ true → b ≡ true → from < to
ahead_alone from to b h alone = by (nat_lt from to) refl (nat_le from to) b h alone
  where
    by : (x : Bool) → nat_lt from to ≡ x → (y b : Bool) → (x || (y && not b)) ≡ true → b ≡ true → from < to
    by true e y b h k = ltb-true from to e
    by false e true true h k = cc
    by false e true false h k = cc
    by false e false b h k = cc

each_passes : {X : Type 0} (p : X → Bool) (xs : List X) → list_all p xs ≡ true → Each (λ x. p x ≡ true) xs
each_passes p [] all = tt
each_passes p (x ∷ xs) all = (and_left (p x) (list_all p xs) all, each_passes p xs (and_right (p x) (list_all p xs) all))

-- what leaves a node leaves one of the graph
is_within : {X Y : Type 0} (f : X → List Y) (xs : List X) (n : ℕ) (y : Y) → Contains (option_map_or f (slice_get xs n) []) y → n < length xs
is_within f [] n y there = absurd (omega (arith, there.1))
is_within f (x ∷ xs) zero y there = omega arith
is_within f (x ∷ xs) (suc n) y there = let less = is_within f xs n y there in omega (arith, less)

one_ahead : (g : Graph) (parts : List ℕ) (alone : List Bool) → are_ahead parts alone g ≡ true → (n : ℕ) (a : Arrow) → Contains (arrows_of g n) a → leads_ahead parts alone n a ≡ true
one_ahead g parts alone all n a there =
    let inside : n < length g.nodes.items = is_within (λ row. row.items) g.nodes.items n a there in
    let row : all_ahead parts alone g n ≡ true =
    among_all (all_ahead parts alone g) (range_with_len 0 (length g.nodes.items)) n all
    (among_range 0 (length g.nodes.items) n (omega arith) (omega (arith, inside))) in
    each_contained (λ b. leads_ahead parts alone n b ≡ true) (arrows_of g n) a (each_passes (leads_ahead parts alone n) (arrows_of g n) row) there

pub ahead_parts : (g : Graph) (parts : List ℕ) (alone : List Bool) → are_ahead parts alone g ≡ true → AreParts g parts alone
ahead_parts g parts lone all = record {
  later = λ n a there. ahead_later (part_in parts n) (part_in parts a.to) (is_alone lone a.to) (one_ahead g parts lone all n a there);
  alone = λ n a there h. ahead_alone (part_in parts n) (part_in parts a.to) (is_alone lone a.to) (one_ahead g parts lone all n a there) h;
}

-- the test, node by node

more_ahead : (p : ℕ → Bool) (n k : ℕ) → n < k → list_all p (range_with_len n (k - n)) ≡ (p n && list_all p (range_with_len (n + 1) (k - (n + 1))))
more_ahead p n k less = let one : k - n ≡ suc (k - (n + 1)) = omega (arith, less) in ap (λ (m : ℕ). list_all p (range_with_len n m)) one

pub is_ahead : (p : ℕ → Bool) (n k : ℕ) (all : Bool) → n < k → p n ≡ true → list_all p (range_with_len n (k - n)) ≡ all → list_all p (range_with_len (n + 1) (k - (n + 1))) ≡ all
is_ahead p n k all less h so_far = sym (more_ahead p n k less ∙ ap (λ (b : Bool). b && list_all p (range_with_len (n + 1) (k - (n + 1)))) h) ∙ so_far

pub not_ahead : (p : ℕ → Bool) (n k : ℕ) (all : Bool) → n < k → p n ≡ false → list_all p (range_with_len n (k - n)) ≡ all → false ≡ all
not_ahead p n k all less h so_far = sym (more_ahead p n k less ∙ ap (λ (b : Bool). b && list_all p (range_with_len (n + 1) (k - (n + 1)))) h) ∙ so_far

pub ahead_all : (p : ℕ → Bool) (n k : ℕ) (all : Bool) → k ≤ n → list_all p (range_with_len n (k - n)) ≡ all → true ≡ all
ahead_all p n k all far so_far = let none : k - n ≡ 0 = omega (arith, far) in sym (ap (λ (m : ℕ). list_all p (range_with_len n m)) none) ∙ so_far

-- with no parts at all nothing is said

all_same : (parts : List ℕ) (m n : ℕ) → parts ≡ [] → part_in parts m ≡ part_in parts n
all_same [] m n none = refl
all_same (p ∷ parts) m n none = cc

none_alone : (alone : List Bool) (n : ℕ) → alone ≡ [] → is_alone alone n ≡ false
none_alone [] n none = refl
none_alone (b ∷ alone) n none = cc

pub no_parts : (g : Graph) (parts : List ℕ) (alone : List Bool) → parts ≡ [] → alone ≡ [] → AreParts g parts alone
no_parts g parts lone none empty = record {
  later = λ n a there. let same = all_same parts n a.to none in omega (arith, same);
  alone = λ n a there h. let not_so = none_alone lone a.to empty in cc;
}
