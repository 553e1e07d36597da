-- The dearest effect of nodes, one more node at a time; and the first of numbers that is largest.
use Rattle.std.specs.Prelude.{◌≡◌, ◌⊎◌, ◌<◌, ◌≤◌, ◌+◌, ◌==◌, ◌&&◌, ◌||◌, nat_lt, ℕ, zero, suc, Bool, true, false, List, [], ◌∷◌, ◌++◌, get_or, length, take, slice_get, unwrap_or, Option, Some, None, refl}
use Rattle.std.specs.Option.{option_map_or}
use Rattle.std.specs.Ordering.{is_lt}
use Rattle.std.proofs.Common.{arith, inl, inr, ap, ◌∙◌, sym, subst, true≢false}
use Rattle.std.proofs.lemmas.Bool.{ltb-false, ltb-true}
use Rattle.std.proofs.lemmas.Bool.Decides.{Decides-eqb}
use Rattle.std.proofs.lemmas.List.{take_all, take_more}
use Rattle.std.proofs.lemmas.Option.{slice_get_within}
use Rattle.mh_laws.specs.Each.{Among}
use Rattle.mh_laws.proofs.EachLemmas.{among_left, among_right}
use Rattle.mh_layers.specs.declared.cause.Cause.{Cause}
use Rattle.mh_layers.specs.declared.ways.dearest.Dearest.{Dearest}
use Rattle.mh_layers.specs.declared.numbered_node.NumberedNode.{NumberedNode}
use Rattle.mh_layers.specs.Choosing.{AreChosen, IsChosen, IsLargest, IsLargestTo, IsSeen, effect_cost, is_dearer, number_at}
use Rattle.mh_layers.specs.Cycle.{by_effect_site}
use Rattle.mh_layers.specs.Layering.{Places}
use Rattle.mh_layers.specs.Reading.{Reading}
use Rattle.mh_layers.specs.EffectSites.{cause_named}
use Rattle.mh_layers.proofs.CausedLemmas.{before_or_at}
use Rattle.mh_layers.proofs.WalkLemmas.{before_none, before_on, behind_one}

-- ONE MORE NODE

not_true : (b : Bool) → (b ≡ true → ⊥) → b ≡ false
not_true true never = absurd (never refl)
not_true false never = refl

either_true : (a b : Bool) → (a || b) ≡ true → (a ≡ true) ⊎ (b ≡ true)
either_true true b e = inl refl
either_true false b e = inr e

both_true : (a b : Bool) → (a && b) ≡ true → (a ≡ true) × (b ≡ true)
both_true true b e = (refl, e)
both_true false b e = absurd cc

neither : (a b : Bool) → (a || b) ≡ false → (a ≡ false) × (b ≡ false)
neither true b e = absurd cc
neither false b e = (refl, e)

not_both : (a b : Bool) → (a && b) ≡ false → a ≡ true → b ≡ false
not_both true b e h = e
not_both false b e h = absurd cc

-- the best stays, where the node costs no more, and does not come before it if it costs as much
still : (r : Reading) (ts : Places) (seen : List NumberedNode) (k : NumberedNode) (b : Dearest) → IsChosen r ts seen b → effect_cost ts k ≤ b.cost → (effect_cost ts k ≡ b.cost → is_lt (by_effect_site (cause_named r k) b.cause) ≡ false) → IsChosen r ts (seen ++ k ∷ []) b
still r ts seen k b best less later = record {
  there = among_left seen (k ∷ []) b.node best.there;
  cause = best.cause;
  cost = best.cost;
  costs = best.costs;
  most = behind_one seen k best.most less;
  first = behind_one seen k best.first later;
}

pub seen_nothing : (r : Reading) (ts : Places) (k : NumberedNode) (old : Option Dearest) → effect_cost ts k ≡ 0 → IsSeen r ts k old old
seen_nothing r ts k None none = record { best = λ seen all. behind_one seen k all none }
seen_nothing r ts k (Some b) none = record {
  best = λ seen best. let some = best.costs in still r ts seen k b best (omega (arith, none)) (λ e. absurd (omega (arith, none, e, some)));
}

pub seen_later : (r : Reading) (ts : Places) (k : NumberedNode) (x : Cause) (cost : ℕ) (old : Option Dearest) → cost ≡ effect_cost ts k → x ≡ cause_named r k → option_map_or (is_dearer cost x) old true ≡ false → IsSeen r ts k old old
seen_later r ts k x cost None at is later = absurd cc
seen_later r ts k x cost (Some b) at is later = record {
  best = λ seen best. still r ts seen k b best (subst (λ (n : ℕ). n ≤ b.cost) at most) (λ e. subst (λ (y : Cause). is_lt (by_effect_site y b.cause) ≡ false) is (behind (at ∙ e)));
}
  where
    two : (nat_lt b.cost cost ≡ false) × ((cost == b.cost && is_lt (by_effect_site x b.cause)) ≡ false)
    two = neither (nat_lt b.cost cost) (cost == b.cost && is_lt (by_effect_site x b.cause)) later

    most : cost ≤ b.cost
    most = ltb-false b.cost cost two.0

    behind : cost ≡ b.cost → is_lt (by_effect_site x b.cause) ≡ false
    behind e = not_both (cost == b.cost) (is_lt (by_effect_site x b.cause)) two.1 ((Decides-eqb cost b.cost).1 e)

-- the node is the best now
now_best : (r : Reading) (ts : Places) (seen : List NumberedNode) (k : NumberedNode) (b : Dearest) → b.node ≡ k → b.cause ≡ cause_named r k → b.cost ≡ effect_cost ts k → 0 < b.cost → ((j : NumberedNode) → Among seen j → effect_cost ts j ≤ b.cost)
    → ((j : NumberedNode) → Among seen j → effect_cost ts j ≡ b.cost → is_lt (by_effect_site (cause_named r j) b.cause) ≡ false) → IsChosen r ts (seen ++ k ∷ []) b
now_best r ts seen k b own is at some most first = record {
  there = among_right seen (k ∷ []) b.node (inl (sym own));
  cause = is ∙ ap (cause_named r) (sym own);
  cost = at ∙ ap (effect_cost ts) (sym own);
  costs = some;
  most = behind_one seen k most (omega (arith, at));
  first = behind_one seen k first (λ e. not_true (is_lt (by_effect_site (cause_named r k) b.cause)) (λ h. before_none b.cause (subst (λ (y : Cause). is_lt (by_effect_site y b.cause) ≡ true) (sym is) h)));
}

pub seen_best : (r : Reading) (ts : Places) (k : NumberedNode) (b : Dearest) (old new : Option Dearest) → b.node ≡ k → b.cause ≡ cause_named r k → b.cost ≡ effect_cost ts k → (b.cost == 0) ≡ false → option_map_or (is_dearer b.cost b.cause) old true ≡ true → new ≡ Some b → IsSeen r ts k old new
seen_best r ts k b None new own is at some first now = record {
  best = λ seen all.
      subst (AreChosen r ts (seen ++ k ∷ [])) (sym now)
      (now_best r ts seen k b own is at positive (λ j there. nothing_below (effect_cost ts j) (all j there)) (λ j there e. absurd (nothing_equal (effect_cost ts j) (all j there) e)));
}
  where
    positive : 0 < b.cost
    positive = by b.cost some
      where
        by : (n : ℕ) → (n == 0) ≡ false → 0 < n
        by zero e = absurd cc
        by (suc n) e = omega arith

    nothing_below : (n : ℕ) → n ≡ 0 → n ≤ b.cost
    nothing_below n e = omega (arith, e)

    nothing_equal : (n : ℕ) → n ≡ 0 → n ≡ b.cost → ⊥
    nothing_equal n e same = omega (arith, e, same, positive)
seen_best r ts k b (Some a) new own is at some first now = record {
  best = λ seen best. subst (AreChosen r ts (seen ++ k ∷ [])) (sym now) (by seen best (either_true (nat_lt a.cost b.cost) (b.cost == a.cost && is_lt (by_effect_site b.cause a.cause)) first));
}
  where
    less_than : (l m n : ℕ) → l ≤ m → m < n → l ≤ n
    less_than l m n h i = omega (arith, h, i)

    more : (l m n : ℕ) → l ≤ m → m < n → l ≡ n → ⊥
    more l m n h i e = omega (arith, h, i, e)

    positive : (m n : ℕ) → 0 < m → m < n → 0 < n
    positive m n h i = omega (arith, h, i)

    by : (seen : List NumberedNode) → IsChosen r ts seen a → (nat_lt a.cost b.cost ≡ true) ⊎ ((b.cost == a.cost && is_lt (by_effect_site b.cause a.cause)) ≡ true) → IsChosen r ts (seen ++ k ∷ []) b
    by seen best (inl h) =
        let less : a.cost < b.cost = ltb-true a.cost b.cost h in
        now_best r ts seen k b own is at (positive a.cost b.cost best.costs less) (λ j there. less_than (effect_cost ts j) a.cost b.cost (best.most j there) less)
        (λ j there e. absurd (more (effect_cost ts j) a.cost b.cost (best.most j there) less e))
    by seen best (inr h) =
        let two = both_true (b.cost == a.cost) (is_lt (by_effect_site b.cause a.cause)) h in
        let same : b.cost ≡ a.cost = (Decides-eqb b.cost a.cost).0 two.0 in
        now_best r ts seen k b own is at (subst (λ (n : ℕ). 0 < n) (sym same) best.costs) (λ j there. subst (λ (n : ℕ). effect_cost ts j ≤ n) (sym same) (best.most j there))
        (λ j there e. not_true (is_lt (by_effect_site (cause_named r j) b.cause)) (λ lt. true≢false (sym (before_on (cause_named r j) b.cause a.cause lt two.1) ∙ best.first j there (e ∙ same))))

pub chosen_more : (r : Reading) (ts : Places) (ks : List NumberedNode) (i : ℕ) (d : NumberedNode) (old new : Option Dearest) → i < length ks → AreChosen r ts (take i ks) old → IsSeen r ts (get_or ks i d) old new → AreChosen r ts (take (i + 1) ks) new
chosen_more r ts ks i d old new less so_far seen =
    subst (λ (js : List NumberedNode). AreChosen r ts js new) (sym (take_more ks i d less)) (seen.best (take i ks) so_far)

pub chosen_all : (r : Reading) (ts : Places) (ks : List NumberedNode) (i : ℕ) (best : Option Dearest) → length ks ≤ i → AreChosen r ts (take i ks) best → AreChosen r ts ks best
chosen_all r ts ks i best far so_far = subst (λ (js : List NumberedNode). AreChosen r ts js best) (take_all i ks far) so_far

-- NUMBERS

pub largest_begins : (ns : List ℕ) → 0 < length ns → IsLargestTo ns 1 0
largest_begins [] some = absurd (omega (arith, some))
largest_begins (x ∷ ns) some = record {
  within = omega arith;
  most = λ m less. let zero_is : m ≡ 0 = omega (arith, less) in subst (λ (n : ℕ). number_at (x ∷ ns) n ≤ x) (sym zero_is) (omega arith);
  first = λ m less. absurd (omega (arith, less));
}

larger_so : (a b c : ℕ) → a ≤ b → b < c → a < c
larger_so a b c h i = omega (arith, h, i)

pub largest_new : (ns : List ℕ) (k n : ℕ) → k < length ns → IsLargestTo ns k n → nat_lt (number_at ns n) (number_at ns k) ≡ true → IsLargestTo ns (k + 1) k
largest_new ns k n within best h = record {
  within = within;
  most = λ m less. by m (before_or_at m k less);
  first = λ m less. larger_so (number_at ns m) (number_at ns n) (number_at ns k) (best.most m less) (ltb-true (number_at ns n) (number_at ns k) h);
}
  where
    weaker : (a b : ℕ) → a < b → a ≤ b
    weaker a b h = omega (arith, h)

    by : (m : ℕ) → (m < k) ⊎ (m ≡ k) → number_at ns m ≤ number_at ns k
    by m (inl less) = weaker (number_at ns m) (number_at ns k) (larger_so (number_at ns m) (number_at ns n) (number_at ns k) (best.most m less) (ltb-true (number_at ns n) (number_at ns k) h))
    by m (inr same) = subst (λ (i : ℕ). number_at ns m ≤ number_at ns i) same (omega arith)

pub largest_same : (ns : List ℕ) (k n : ℕ) → IsLargestTo ns k n → nat_lt (number_at ns n) (number_at ns k) ≡ false → IsLargestTo ns (k + 1) n
largest_same ns k n best h = record { within = best.within; most = λ m less. by m (before_or_at m k less); first = best.first }
  where
    by : (m : ℕ) → (m < k) ⊎ (m ≡ k) → number_at ns m ≤ number_at ns n
    by m (inl less) = best.most m less
    by m (inr same) = subst (λ (i : ℕ). number_at ns i ≤ number_at ns n) (sym same) (ltb-false (number_at ns n) (number_at ns k) h)

got_number : (ns : List ℕ) (n y : ℕ) → slice_get ns n ≡ Some y → number_at ns n ≡ y
got_number ns n y at = ap (λ (o : Option ℕ). unwrap_or o 0) at

there_number : (ns : List ℕ) (n : ℕ) → n < length ns → slice_get ns n ≡ Some (number_at ns n)
there_number [] n less = absurd (omega (arith, less))
there_number (x ∷ ns) zero less = refl
there_number (x ∷ ns) (suc n) less = there_number ns n (omega (arith, less))

pub largest_all : (ns : List ℕ) (k n : ℕ) → length ns ≤ k → IsLargestTo ns k n → IsLargest ns n
largest_all ns k n far best = record {
  place = there_number ns n best.within;
  most = λ m y at. subst (λ (i : ℕ). i ≤ number_at ns n) (got_number ns m y at) (best.most m (near m (slice_get_within ns m y at)));
  first = λ m y less at. subst (λ (i : ℕ). i < number_at ns n) (got_number ns m y at) (best.first m less);
}
  where
    near : (m : ℕ) → m < length ns → m < k
    near m less = omega (arith, less, far)
