-- What is laid by numbers is laid by name.
use Rattle.std.specs.Prelude.{◌≡◌, ◌<◌, ℕ, true, Option, Some, None, is_some, Ok, refl}
use Rattle.std.proofs.Common.{ap, ◌∙◌, sym, subst}
use Rattle.mh_model.specs.Service.{Service}
use Rattle.mh_laws.specs.Costs as costs
use Rattle.mh_laws.specs.Flow.{Flow}
use Rattle.mh_laws.specs.Layers.{IsLayering}
use Rattle.mh_laws.specs.Price.{Nodes}
use Rattle.mh_laws.proofs.PriceLemmas.{nodes_both, nodes_map}
use Rattle.mh_layers.specs.declared.laying.costs.Laid.{Laid}
use Rattle.mh_layers.specs.declared.numbered_node.NumberedNode.{NumberedNode}
use Rattle.mh_layers.specs.CostNode.{CostNode}
use Rattle.mh_layers.specs.Bridge.{IsHad, IsRead, KeptBy, LaidByNumber, cost_by, has_by, node_rank, rank_by}
use Rattle.mh_layers.specs.CostNodes.{Heard, IsKept, IsMet, price_of}
use Rattle.mh_layers.specs.Known.{known_worth, told, told_of}
use Rattle.mh_layers.specs.Layering.{AreLayers, IsLower, NoneRanked, Places, cost_in, cost_of, laid_in, rank_of}
use Rattle.mh_layers.specs.Numbered.{AreNamed, numbered}
use Rattle.mh_layers.proofs.BridgeLemmas.{counted_is_met, nodes_are_exact, met_kept}
use Rattle.mh_layers.proofs.KnownLemmas.{known_also}
use Rattle.mh_layers.proofs.NamedLemmas.{known_numbered, nodes_numbered, numbered_nodes}
use Rattle.mh_layers.proofs.RankLemmas.{layers_are_ranks, ranks_are_layers}

-- what is told of a number is told of its node
told_named : {K L : Type 0} (k : K) (n : L) (o : Option ℕ) (a : ℕ) → told_of n o ≡ Ok a → told_of k o ≡ Ok a
told_named k n (Some c) a e = let same : c ≡ a = cc in ap Ok same
told_named k n None a e = absurd cc

lower_had : (o : Option Laid) (r : ℕ) → IsLower o r → (is_some o ≡ true) × (rank_of o < r)
lower_had None r low = absurd cc
lower_had (Some x) r low = (refl, low)

-- what may have a cost counts what may
counts_kept : (v : Service) (w : Flow) (h : Heard) → IsRead v w h → (k : CostNode) → IsKept v w h k → Nodes (IsKept v w h) (price_of v w h k)
counts_kept v w h read k kept = nodes_map (IsMet v w h) (IsKept v w h) (met_kept v w h read) (price_of v w h k) (counted_is_met v w h read k kept)

pub laid_by_number : LaidByNumber
laid_by_number v w h read number name price are = record {
  counted = record { each = counted };
  named = named;
  exact = λ ts layers f cost k has met. nodes_are_exact v w h read (has_by ts number) (cost_by ts number) (rank_by ts number) (named ts layers) f cost k has met;
  layering = λ ts layers there. ranks_are_layers v w h read (has_by ts number) (rank_by ts number) (record { falls = (named ts layers).falls; effects = there });
  none = none;
}
  where
    kept_back : (k : CostNode) → IsKept v w h k → KeptBy v w h name (number k)
    kept_back k kept = subst (IsKept v w h) (sym (are.back k kept)) kept

    -- the price of a node's number is the node's
    priced : (k : CostNode) → IsKept v w h k → price (number k) ≡ numbered number (price_of v w h k)
    priced k kept = are.prices (number k) (kept_back k kept) ∙ ap (λ (j : CostNode). numbered number (price_of v w h j)) (are.back k kept)

    counted : (n : NumberedNode) → KeptBy v w h name n → Nodes (KeptBy v w h name) (price n)
    counted n kept =
        subst (Nodes (KeptBy v w h name)) (sym (are.prices n kept))
        (numbered_nodes number (KeptBy v w h name) (price_of v w h (name n))
        (nodes_map (IsKept v w h) (λ (k : CostNode). KeptBy v w h name (number k)) kept_back (price_of v w h (name n)) (counts_kept v w h read (name n) kept)))

    comes : (ts : Places) → AreLayers price (KeptBy v w h name) ts → (k : CostNode) → IsKept v w h k → (o : Option Laid) → laid_in ts (number k) ≡ o → is_some o ≡ true →
        (c : ℕ) × (cost_by ts number k ≡ Some c) × (known_worth (told (cost_by ts number)) (price_of v w h k) ≡ Ok c)
    comes ts layers k kept None e some = absurd cc
    comes ts layers k kept (Some x) e some = (
      x.cost,
      ap cost_of e,
      known_also (λ (j : CostNode). told (cost_in ts) (number j)) (told (cost_by ts number)) (price_of v w h k) x.cost (λ j a. told_named j (number j) (cost_in ts (number j)) a)
          (sym (known_numbered number (told (cost_in ts)) (price_of v w h k)) ∙ sym (ap (known_worth (told (cost_in ts))) (priced k kept)) ∙ layers.comes (number k) x (kept_back k kept) e),
    )

    falls : (ts : Places) → AreLayers price (KeptBy v w h name) ts → (k : CostNode) → IsKept v w h k → (o : Option Laid) → laid_in ts (number k) ≡ o → is_some o ≡ true →
        Nodes (λ j. IsHad v w h (has_by ts number) j × (rank_by ts number j < rank_by ts number k)) (price_of v w h k)
    falls ts layers k kept None e some = absurd cc
    falls ts layers k kept (Some x) e some =
        nodes_map (λ (j : CostNode). IsLower (laid_in ts (number j)) x.rank × IsKept v w h j) (λ (j : CostNode). IsHad v w h (has_by ts number) j × (rank_by ts number j < rank_by ts number k))
        (λ j l. let low = lower_had (laid_in ts (number j)) x.rank l.0 in
        ((low.0, l.1), subst (λ (r : ℕ). rank_by ts number j < r) (sym (ap rank_of e)) low.1)) (price_of v w h k)
        (nodes_both (λ (j : CostNode). IsLower (laid_in ts (number j)) x.rank) (IsKept v w h) (price_of v w h k)
        (nodes_numbered number (λ (n : NumberedNode). IsLower (laid_in ts n) x.rank) (price_of v w h k)
        (subst (Nodes (λ (n : NumberedNode). IsLower (laid_in ts n) x.rank)) (priced k kept) (layers.falls (number k) x (kept_back k kept) e)))
        (counts_kept v w h read k kept))

    named : (ts : Places) → AreLayers price (KeptBy v w h name) ts → AreNamed (price_of v w h) (IsHad v w h (has_by ts number)) (cost_by ts number) (rank_by ts number)
    named ts layers = record {
      comes = λ k had. comes ts layers k had.1 (laid_in ts (number k)) refl had.0;
      falls = λ k had. falls ts layers k had.1 (laid_in ts (number k)) refl had.0;
    }

    ranked : (rank : costs.Effect → ℕ) → IsLayering v w rank → (n : NumberedNode) → KeptBy v w h name n → Nodes (λ m. node_rank v w rank (name m) < node_rank v w rank (name n)) (price n)
    ranked rank layering n kept =
        subst (Nodes (λ (m : NumberedNode). node_rank v w rank (name m) < node_rank v w rank (name n))) (sym (are.prices n kept))
        (numbered_nodes number (λ (m : NumberedNode). node_rank v w rank (name m) < node_rank v w rank (name n)) (price_of v w h (name n))
        (nodes_map (λ (j : CostNode). (node_rank v w rank j < node_rank v w rank (name n)) × IsKept v w h j) (λ (j : CostNode). node_rank v w rank (name (number j)) < node_rank v w rank (name n))
        (λ j l. subst (λ (i : CostNode). node_rank v w rank i < node_rank v w rank (name n)) (sym (are.back j l.1)) l.0) (price_of v w h (name n))
        (nodes_both (λ (j : CostNode). node_rank v w rank j < node_rank v w rank (name n)) (IsKept v w h) (price_of v w h (name n))
        (layers_are_ranks v w h read rank layering (name n) kept) (counts_kept v w h read (name n) kept))))

    none : NoneRanked price (KeptBy v w h name) → (rank : costs.Effect → ℕ) → IsLayering v w rank → ⊥
    none unranked rank layering = unranked.none (λ n. node_rank v w rank (name n)) (ranked rank layering)
