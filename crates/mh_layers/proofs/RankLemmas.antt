-- Ranks of nodes and layerings of effects.
use Rattle.std.specs.Prelude.{◌≡◌, ◌⊎◌, ◌<◌, ◌≤◌, ℕ, zero, suc, ◌+◌, ◌*◌, nat_lt, max, Bool, true, List, [], ◌∷◌, refl}
use Rattle.std.proofs.Common.{arith, inl, inr, ◌∙◌, sym, subst}
use Rattle.std.proofs.Math.Nat.{le-max_left, max-le}
use Rattle.std.proofs.lemmas.Bool.Decides.{Decides-ltb}
use Rattle.mh_model.specs.Service.{Service}
use Rattle.mh_laws.specs.Costs as costs
use Rattle.mh_laws.specs.Each.{Among}
use Rattle.mh_laws.specs.Flow.{Flow}
use Rattle.mh_laws.specs.Layers.{IsOn, most_of}
use Rattle.mh_laws.specs.Price.{Price, Nothing, counted_in, Nodes}
use Rattle.mh_laws.proofs.PriceLemmas.{nodes_both, nodes_map, nodes_of, of_nodes}
use Rattle.mh_layers.specs.CostNode.{CostNode, Effect, Fired, Entry, Change, Leave, Enter, Taken}
use Rattle.mh_layers.specs.Bridge.{IsHad, LayersAreRanks, RanksAreLayers, node_of, node_rank}
use Rattle.mh_layers.specs.CostNodes.{Heard, IsKept, IsMet, level, price_of, stands_for}
use Rattle.mh_layers.proofs.AgreeLemmas.{IsLow}
use Rattle.mh_layers.proofs.BridgeLemmas.{counted_is_met, met_kept, set}
use Rattle.mh_layers.proofs.NodeAgreeLemmas.{IsOther, effect_agrees, node_agrees, on_kept, on_or_nothing}
use Rattle.mh_layers.proofs.ReckonLemmas.{by_test, nodes_pass, pass_nodes, reckon}

-- a node is an effect's, or another
effect_or_other : (k : CostNode) → ((x : costs.Effect) × (k ≡ node_of x)) ⊎ IsOther k
effect_or_other (Effect c r n) = inl (record { config = c; object = r; number = n }, refl)
effect_or_other (Fired c r kind g) = inr tt
effect_or_other (Entry r kind g) = inr tt
effect_or_other (Change c r) = inr tt
effect_or_other (Leave c all) = inr tt
effect_or_other (Enter c) = inr tt
effect_or_other (Taken c k) = inr tt

-- all effects for which it stands have lower ranks
abbrev Under : Service → Flow → (costs.Effect → ℕ) → ℕ → CostNode → Type 0
Under v w rank n k = reckon by_test (λ y. nat_lt (rank y) n) (stands_for v w k) ≡ true

lower_yes : (a b : ℕ) → a < b → nat_lt a b ≡ true
lower_yes a b less = (Decides-ltb a b).1 less

yes_lower : (a b : ℕ) → nat_lt a b ≡ true → a < b
yes_lower a b e = (Decides-ltb a b).0 e

-- Ranks of nodes make a layering

pub ranks_are_layers : RanksAreLayers
ranks_are_layers v w h read has rank ranked x y on causes =
    let all = nodes_pass (λ j. reckon by_test under (stands_for v w j)) (price_of v w h (node_of x)) inner in
    yes_lower (rank (node_of y)) (rank (node_of x))
    (of_nodes (λ z. under z ≡ true) (costs.effect_price v w x) (pass_nodes under (costs.effect_price v w x) (sym (effect_agrees (set by_test under v w h read) x on).same ∙ all)) y causes)
  where
    under : costs.Effect → Bool
    under z = nat_lt (rank (node_of z)) (rank (node_of x))

    down : (b : ℕ) (k : CostNode) → has k ≡ true → IsMet v w h k → rank k < b → rank k < rank (node_of x) → Under v w (λ z. rank (node_of z)) (rank (node_of x)) k
    down zero k here met less low = absurd (omega (arith, less))
    down (suc b) k here met less low = by (effect_or_other k) (down b)
      where
        lower : (l m n : ℕ) → l < m → m < suc n → l < n
        lower l m n s t = omega (arith, s, t)

        by : ((z : costs.Effect) × (k ≡ node_of z)) ⊎ IsOther k → ((j : CostNode) → has j ≡ true → IsMet v w h j → rank j < b → rank j < rank (node_of x) → Under v w (λ z. rank (node_of z)) (rank (node_of x)) j) → Under v w (λ z. rank (node_of z)) (rank (node_of x)) k
        by (inl (z, is)) behind =
            subst (λ (j : CostNode). Under v w (λ z. rank (node_of z)) (rank (node_of x)) j) (sym is)
            (lower_yes (rank (node_of z)) (rank (node_of x)) (subst (λ (j : CostNode). rank j < rank (node_of x)) is low))
        by (inr other) behind =
            sym (node_agrees (set by_test under v w h read) k other (met_kept v w h read k met)).same
            ∙ nodes_pass (λ j. reckon by_test under (stands_for v w j)) (price_of v w h k)
            (nodes_map (λ (j : CostNode). (IsHad v w h has j × (rank j < rank k)) × IsMet v w h j) (λ (j : CostNode). reckon by_test under (stands_for v w j) ≡ true)
            (λ j l. behind j l.0.0.0 l.1 (lower (rank j) (rank k) b l.0.1 less) (between (rank j) (rank k) (rank (node_of x)) l.0.1 low)) (price_of v w h k)
            (nodes_both (λ (j : CostNode). IsHad v w h has j × (rank j < rank k)) (IsMet v w h) (price_of v w h k) (ranked.falls k (here, met_kept v w h read k met)) (counted_is_met v w h read k (met_kept v w h read k met))))
          where
            between : (l m n : ℕ) → l < m → m < n → l < n
            between l m n s t = omega (arith, s, t)

    here : IsKept v w h (node_of x)
    here = on_kept (set by_test under v w h read) x on

    inner : Nodes (λ j. reckon by_test under (stands_for v w j) ≡ true) (price_of v w h (node_of x))
    inner =
        nodes_map (λ (j : CostNode). (IsHad v w h has j × (rank j < rank (node_of x))) × IsMet v w h j) (λ (j : CostNode). reckon by_test under (stands_for v w j) ≡ true)
        (λ j l. down (rank (node_of x)) j l.0.0.0 l.1 l.0.1 l.0.1) (price_of v w h (node_of x))
        (nodes_both (λ (j : CostNode). IsHad v w h has j × (rank j < rank (node_of x))) (IsMet v w h) (price_of v w h (node_of x))
        (ranked.falls (node_of x) (ranked.effects x y on causes, here)) (counted_is_met v w h read (node_of x) here))

-- A layering ranks nodes

among_at_most : {X : Type 0} (f : X → ℕ) (xs : List X) (x : X) → Among xs x → f x ≤ most_of f xs
among_at_most f [] x there = absurd cc
among_at_most {X} f (y ∷ xs) x (inl same) = subst (λ (z : X). f z ≤ most_of f (y ∷ xs)) same (le-max_left (f y) (most_of f xs))
among_at_most f (y ∷ xs) x (inr more) = below (f x) (most_of f xs) (f y) (among_at_most f xs x more)
  where
    below : (a b c : ℕ) → a ≤ b → a ≤ max c b
    below a b c h = omega (arith, h)

at_most_all : {X : Type 0} (f : X → ℕ) (xs : List X) (n : ℕ) → ((x : X) → Among xs x → f x ≤ n) → most_of f xs ≤ n
at_most_all f [] n h = omega arith
at_most_all f (x ∷ xs) n h = max-le (h x (inl refl)) (at_most_all f xs n (λ y there. h y (inr there)))

-- above the ranks of all effects for which the node stands
abbrev above : Service → Flow → (costs.Effect → ℕ) → CostNode → ℕ
above v w rank k = most_of (λ x. suc (rank x)) (counted_in (stands_for v w k))

under_above : (v : Service) (w : Flow) (rank : costs.Effect → ℕ) (k : CostNode) → Under v w rank (above v w rank k) k
under_above v w rank k =
    nodes_pass (λ y. nat_lt (rank y) (above v w rank k)) (stands_for v w k)
    (nodes_of (λ y. nat_lt (rank y) (above v w rank k) ≡ true) (stands_for v w k)
    (λ y there. lower_yes (rank y) (above v w rank k) (one (rank y) (above v w rank k) (among_at_most (λ z. suc (rank z)) (counted_in (stands_for v w k)) y there))))
  where
    one : (a b : ℕ) → suc a ≤ b → a < b
    one a b h = h

above_under : (v : Service) (w : Flow) (rank : costs.Effect → ℕ) (n : ℕ) (k : CostNode) → Under v w rank n k → above v w rank k ≤ n
above_under v w rank n k under =
    at_most_all (λ z. suc (rank z)) (counted_in (stands_for v w k)) n
    (λ y there. one (rank y) n (yes_lower (rank y) n (of_nodes (λ z. nat_lt (rank z) n ≡ true) (stands_for v w k) (pass_nodes (λ z. nat_lt (rank z) n) (stands_for v w k) under) y there)))
  where
    one : (a b : ℕ) → a < b → suc a ≤ b
    one a b h = h

other_rank : (v : Service) (w : Flow) (rank : costs.Effect → ℕ) (k : CostNode) → IsOther k → node_rank v w rank k ≡ 7 * above v w rank k + level k
other_rank v w rank (Effect c r n) other = absurd cc
other_rank v w rank (Fired c r kind g) other = refl
other_rank v w rank (Entry r kind g) other = refl
other_rank v w rank (Change c r) other = refl
other_rank v w rank (Leave c all) other = refl
other_rank v w rank (Enter c) other = refl
other_rank v w rank (Taken c k) other = refl

ranked_below : (v : Service) (w : Flow) (rank : costs.Effect → ℕ) (n l : ℕ) (j : CostNode) → Under v w rank n j → level j < l → node_rank v w rank j < 7 * n + l
ranked_below v w rank n l j under less = by (effect_or_other j)
  where
    by : ((z : costs.Effect) × (j ≡ node_of z)) ⊎ IsOther j → node_rank v w rank j < 7 * n + l
    by (inl (z, is)) =
        subst (λ (i : CostNode). node_rank v w rank i < 7 * n + l) (sym is)
        (effect (rank z) (yes_lower (rank z) n (subst (λ (i : CostNode). Under v w rank n i) is under)))
      where
        effect : (a : ℕ) → a < n → 7 * a + 6 < 7 * n + l
        effect a h = omega (arith, h)
    by (inr other) =
        subst (λ (m : ℕ). m < 7 * n + l) (sym (other_rank v w rank j other)) (more (above v w rank j) (level j) (above_under v w rank n j under) less)
      where
        more : (a b : ℕ) → a ≤ n → b < l → 7 * a + b < 7 * n + l
        more a b h s = omega (arith, h, s)

all_below : (v : Service) (w : Flow) (h : Heard) (rank : costs.Effect → ℕ) (n l : ℕ) (p : Price CostNode) → reckon by_test (λ j. reckon by_test (λ y. nat_lt (rank y) n) (stands_for v w j)) p ≡ true → Nodes (IsLow v w h l) p → Nodes (λ j. node_rank v w rank j < 7 * n + l) p
all_below v w h rank n l p pass low =
    nodes_map (λ (j : CostNode). Under v w rank n j × IsLow v w h l j) (λ (j : CostNode). node_rank v w rank j < 7 * n + l)
    (λ j s. ranked_below v w rank n l j s.0 s.1.1) p
    (nodes_both (λ (j : CostNode). Under v w rank n j) (IsLow v w h l) p (pass_nodes (λ j. reckon by_test (λ y. nat_lt (rank y) n) (stands_for v w j)) p pass) low)

pub layers_are_ranks : LayersAreRanks
layers_are_ranks v w h read rank layering k kept = by (effect_or_other k)
  where
    below : costs.Effect → ℕ → Bool
    below y n = nat_lt (rank y) n

    effect : (x : costs.Effect) → IsOn v w x ⊎ (price_of v w h (node_of x) ≡ Nothing) → Nodes (λ j. node_rank v w rank j < node_rank v w rank (node_of x)) (price_of v w h (node_of x))
    effect x (inl on) =
        let agrees = effect_agrees (set by_test (λ y. nat_lt (rank y) (rank x)) v w h read) x on in
        all_below v w h rank (rank x) 6 (price_of v w h (node_of x))
        (agrees.same ∙ nodes_pass (λ y. nat_lt (rank y) (rank x)) (costs.effect_price v w x)
        (nodes_of (λ y. nat_lt (rank y) (rank x) ≡ true) (costs.effect_price v w x) (λ y there. lower_yes (rank y) (rank x) (layering x y on there)))) agrees.low
    effect x (inr none) = subst (λ (p : Price CostNode). Nodes (λ j. node_rank v w rank j < node_rank v w rank (node_of x)) p) (sym none) tt

    any : costs.Effect → Bool
    any y = true

    by : ((x : costs.Effect) × (k ≡ node_of x)) ⊎ IsOther k → Nodes (λ j. node_rank v w rank j < node_rank v w rank k) (price_of v w h k)
    by (inl (x, is)) =
        subst (λ (i : CostNode). Nodes (λ j. node_rank v w rank j < node_rank v w rank i) (price_of v w h i)) (sym is)
        (effect x (on_or_nothing (set by_test any v w h read) x.config x.object x.number (subst (λ (i : CostNode). IsKept v w h i) is kept).0))
    by (inr other) =
        let agrees = node_agrees (set by_test (λ y. nat_lt (rank y) (above v w rank k)) v w h read) k other kept in
        subst (λ (m : ℕ). Nodes (λ j. node_rank v w rank j < m) (price_of v w h k)) (sym (other_rank v w rank k other))
        (all_below v w h rank (above v w rank k) (level k) (price_of v w h k) (agrees.same ∙ under_above v w rank k) agrees.low)
