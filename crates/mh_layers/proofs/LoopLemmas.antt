-- Where a node waits, and all do, one counts itself: from node to node that is waited for there is at some time one that was seen.
use Rattle.std.specs.Prelude.{◌≡◌, ◌<◌, ◌≤◌, ◌+◌, ℕ, zero, suc, Bool, true, false, ◌&&◌, ◌||◌, cond, List, [], ◌∷◌, length, Option, Some, None, is_some, refl}
use Rattle.std.specs.List.{list_all, list_any}
use Rattle.std.proofs.Common.{arith, inl, inr, ap, ◌∙◌, sym, subst}
use Rattle.mh_model.proofs.ListLemmas.{and_left, and_right}
use Rattle.mh_laws.specs.Each.{Among, Each}
use Rattle.mh_laws.specs.Price.{Price, counted_in}
use Rattle.mh_laws.proofs.PriceLemmas.{nodes_both, nodes_of}
use Rattle.mh_layers.specs.declared.laying.costs.Laid.{Laid}
use Rattle.mh_layers.specs.declared.numbered_node.NumberedNode.{NumberedNode}
use Rattle.mh_layers.specs.Layering.{AreWaiting, CountsKept, Grows, Places, Waits, cost_in, has_place, is_laid, node_at, laid_in, place_in}
use Rattle.mh_layers.specs.Looping as looping
use Rattle.mh_layers.specs.Looping.{CountsOn, HasLoop}
use Rattle.mh_layers.specs.NumberedNodes.{same_node}
use Rattle.mh_layers.specs.NumberedNodeLaws.{node_itself, nodes_are_apart}
use Rattle.mh_layers.proofs.SuccessorLemmas.{any_among}
use Rattle.mh_layers.proofs.KnownLemmas.{one_waits}
use Rattle.mh_layers.proofs.PlaceLemmas.{none_cost, there_node}

counts_more : (price : NumberedNode → Price NumberedNode) (k i j : NumberedNode) → CountsOn price k i → Among (counted_in (price i)) j → CountsOn price k j
counts_more price k i j (looping.once a b there) next = looping.onward k i j there (looping.once i j next)
counts_more price k i j (looping.onward a m b there more) next = looping.onward k m j there (counts_more price m i j more next)

-- WHAT WAS NOT SEEN

abbrev is_new : Bool → ℕ
is_new true = 0
is_new false = 1

-- how many of the nodes that have a place were not seen
abbrev unseen : List NumberedNode → Places → ℕ
unseen seen [] = 0
unseen seen (e ∷ ts) = is_new (list_any (same_node e.0) seen) + unseen seen ts

or_true : (b : Bool) → (true || b) ≡ true
or_true true = refl
or_true false = refl

or_false : (b : Bool) → (false || b) ≡ b
or_false true = refl
or_false false = refl

at_most : (a b c : ℕ) → a ≡ c → c ≤ b → a ≤ b
at_most a b c same less = omega (arith, same, less)

least : (n : ℕ) → 0 ≤ n
least n = omega arith

itself : (n : ℕ) → n ≤ n
itself n = omega arith

seen_too : (a b : Bool) → is_new (a || b) ≤ is_new b
seen_too true b = at_most (is_new (true || b)) (is_new b) 0 (ap is_new (or_true b)) (least (is_new b))
seen_too false b = at_most (is_new (false || b)) (is_new b) (is_new b) (ap is_new (or_false b)) (itself (is_new b))

no_more : (k : NumberedNode) (seen : List NumberedNode) (ts : Places) → unseen (k ∷ seen) ts ≤ unseen seen ts
no_more k seen [] = itself 0
no_more k seen (e ∷ ts) =
    sum (is_new (same_node e.0 k || list_any (same_node e.0) seen)) (is_new (list_any (same_node e.0) seen)) (unseen (k ∷ seen) ts) (unseen seen ts)
    (seen_too (same_node e.0 k) (list_any (same_node e.0) seen)) (no_more k seen ts)
  where
    sum : (a b c d : ℕ) → a ≤ b → c ≤ d → a + c ≤ b + d
    sum a b c d h i = omega (arith, h, i)

fewer : (k : NumberedNode) (seen : List NumberedNode) (ts : Places) → has_place ts k ≡ true → list_any (same_node k) seen ≡ false → unseen (k ∷ seen) ts < unseen seen ts
fewer k seen [] there new = absurd cc
fewer k seen (e ∷ ts) there new = by (same_node k e.0) (nodes_are_apart k e.0) there (λ more. fewer k seen ts more new)
  where
    first : ℕ
    first = is_new (same_node e.0 k || list_any (same_node e.0) seen)

    before : ℕ
    before = is_new (list_any (same_node e.0) seen)

    now : (a b c d : ℕ) → a ≡ 0 → b ≡ 1 → c ≤ d → a + c < b + d
    now a b c d h i l = omega (arith, h, i, l)

    behind : (a b c d : ℕ) → a ≤ b → c < d → a + c < b + d
    behind a b c d h l = omega (arith, h, l)

    by : (b : Bool) → (b ≡ true → k ≡ e.0) → is_some (cond b (Some e.1) (place_in ts k)) ≡ true → (has_place ts k ≡ true → unseen (k ∷ seen) ts < unseen seen ts) → first + unseen (k ∷ seen) ts < before + unseen seen ts
    by true same h rest =
        let it : same_node e.0 k ≡ true = subst (λ (j : NumberedNode). same_node j k ≡ true) (same refl) (node_itself k) in
        let none : list_any (same_node e.0) seen ≡ false = subst (λ (j : NumberedNode). list_any (same_node j) seen ≡ false) (same refl) new in
        now first before (unseen (k ∷ seen) ts) (unseen seen ts) (ap (λ (c : Bool). is_new (c || list_any (same_node e.0) seen)) it ∙ ap is_new (or_true (list_any (same_node e.0) seen))) (ap is_new none) (no_more k seen ts)
    by false same h rest = behind first before (unseen (k ∷ seen) ts) (unseen seen ts) (seen_too (same_node e.0 k) (list_any (same_node e.0) seen)) (rest h)

-- FROM NODE TO NODE

module _ (price : NumberedNode → Price NumberedNode) (kept : NumberedNode → Type 0) (ts : Places) (counted : CountsKept price kept) (waiting : AreWaiting price kept ts (length ts) false) where
  -- a kept node that waits
  record IsStuck (k : NumberedNode) : Type 0 where
    pub has : kept k
    pub there : has_place ts k ≡ true
    pub none : laid_in ts k ≡ None

  -- waits for one that does
  next : (k : NumberedNode) → IsStuck k → (j : NumberedNode) × IsStuck j × Among (counted_in (price k)) j
  next k stuck =
      let at = there_node ts k stuck.there in
      let waits = waiting.each refl at.0 k at.1 at.2 stuck.has stuck.none in
      let one = one_waits (λ (i : NumberedNode). kept i × Among (counted_in (price k)) i) (cost_in ts) (price k) waits.0
      (nodes_both kept (Among (counted_in (price k))) (price k) (counted.each k stuck.has) (nodes_of (Among (counted_in (price k))) (price k) (λ i there. there))) waits.1 in
      (waits.0, record { has = one.0.0; there = waits.2; none = none_cost (laid_in ts waits.0) one.1 }, one.0.1)

  round : (b : ℕ) (seen : List NumberedNode) (k : NumberedNode) → IsStuck k → ((j : NumberedNode) → Among seen j → CountsOn price j k) → unseen seen ts ≤ b → HasLoop price kept
  round zero seen k stuck from few = by (list_any (same_node k) seen) refl
    where
      by : (b : Bool) → list_any (same_node k) seen ≡ b → HasLoop price kept
      by true e = record { node = k; has = stuck.has; round = from k (any_among seen k e) }
      by false e = let less = fewer k seen ts stuck.there e in absurd (omega (arith, less, few))
  round (suc n) seen k stuck from few = by (list_any (same_node k) seen) refl (round n (k ∷ seen))
    where
      lower : (a b : ℕ) → a < b → b ≤ suc n → a ≤ n
      lower a b h l = omega (arith, h, l)

      by : (b : Bool) → list_any (same_node k) seen ≡ b
          → ((j : NumberedNode) → IsStuck j → ((i : NumberedNode) → Among (k ∷ seen) i → CountsOn price i j) → unseen (k ∷ seen) ts ≤ n → HasLoop price kept) → HasLoop price kept
      by true e rest = record { node = k; has = stuck.has; round = from k (any_among seen k e) }
      by false e rest =
          let more = next k stuck in
          rest more.0 more.1 (behind more.0 more.2) (lower (unseen (k ∷ seen) ts) (unseen seen ts) (fewer k seen ts stuck.there e) few)
        where
          behind : (j : NumberedNode) → Among (counted_in (price k)) j → (i : NumberedNode) → Among (k ∷ seen) i → CountsOn price i j
          behind j counts i (inl same) = subst (λ (m : NumberedNode). CountsOn price m j) same (looping.once k j counts)
          behind j counts i (inr more) = counts_more price i k j (from i more) counts

  -- so there is one where a node is stuck
  stuck_loops : (k : NumberedNode) → IsStuck k → HasLoop price kept
  stuck_loops k stuck = round (unseen [] ts) [] k stuck (λ j there. absurd cc) (omega arith)

-- one of these that is not laid is stuck
pub loop_found : (price : NumberedNode → Price NumberedNode) (kept : NumberedNode → Type 0) (before ts : Places) (roots : List NumberedNode) → CountsKept price kept → AreWaiting price kept ts (length ts) false → Grows before ts → Each kept roots → list_all (has_place before) roots ≡ true → list_all (is_laid ts) roots ≡ false → HasLoop price kept
loop_found price kept before ts [] counted waiting grows has there none = absurd cc
loop_found price kept before ts (k ∷ ks) counted waiting grows has there none =
    by (laid_in ts k) refl (loop_found price kept before ts ks counted waiting grows has.1 (and_right (has_place before k) (list_all (has_place before) ks) there))
  where
    by : (o : Option Laid) → laid_in ts k ≡ o → (list_all (is_laid ts) ks ≡ false → HasLoop price kept) → HasLoop price kept
    by None e behind =
        stuck_loops price kept ts counted waiting k (record { has = has.0; there = grows.places k (and_left (has_place before k) (list_all (has_place before) ks) there); none = e })
    by (Some x) e behind = behind (ap (λ (o : Option Laid). is_some o && list_all (is_laid ts) ks) (sym e) ∙ none)
