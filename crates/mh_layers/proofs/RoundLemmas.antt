-- A node that counts itself tells of an effect that puts itself to work: nodes that are no effects count those of lower levels
-- alone, so that a round comes by an effect, and from effect to effect it is one of effects.
use Rattle.std.specs.Prelude.{◌≡◌, ◌⊎◌, ◌<◌, ℕ, Bool, true, false, List, [], ◌∷◌, refl}
use Rattle.std.proofs.Common.{arith, inl, inr, ap, ◌∙◌, sym, subst}
use Rattle.mh_model.specs.Service.{Service}
use Rattle.mh_laws.specs.Costs as costs
use Rattle.mh_laws.specs.Each.{Among}
use Rattle.mh_laws.specs.Layers.{Causes, IsOn}
use Rattle.mh_laws.specs.Price.{counted_in}
use Rattle.mh_laws.proofs.PriceLemmas.{of_nodes}
use Rattle.mh_flow.specs.Solved.{Solved, flow_in}
use Rattle.mh_layers.specs.declared.numbered_node.NumberedNode.{NumberedNode}
use Rattle.mh_layers.specs.CostNode.{CostNode, Effect}
use Rattle.mh_layers.specs.Bridge.{node_of}
use Rattle.mh_layers.specs.Causing as causing
use Rattle.mh_layers.specs.Causing.{Counts, is_effect}
use Rattle.mh_layers.specs.Cycle as cycle
use Rattle.mh_layers.specs.Cycle.{Leads, NoCycles}
use Rattle.mh_layers.specs.CostNodes.{IsKept, IsMet, level}
use Rattle.mh_layers.specs.Looping as looping
use Rattle.mh_layers.specs.Looping.{CountsOn, HasLoop}
use Rattle.mh_layers.specs.Reading.{IsReading, Reading, flow_read, heard_read, kept, name, price, price_read}
use Rattle.mh_layers.proofs.AgreeLemmas.{IsLow}
use Rattle.mh_layers.proofs.BridgeLemmas.{met_kept, set}
use Rattle.mh_layers.proofs.CausingLemmas.{counted_kept, counted_met, nodes_cause, other_is}
use Rattle.mh_layers.proofs.ChainLemmas.{counts_more}
use Rattle.mh_layers.proofs.NodeAgreeLemmas.{node_agrees}
use Rattle.mh_layers.proofs.ReckonLemmas.{by_test}
use Rattle.mh_layers.proofs.ServeLemmas.{read_of}
use Rattle.mh_layers.proofs.TrailLemmas.{follows}
use Rattle.mh_layers.proofs.NodeGraphLemmas.{Kept, caused_on}

module _ (r : Reading) (read : IsReading r) where
  abbrev Counted : CostNode → CostNode → Type 0
  Counted k j = Among (counted_in (price_read r k)) j

  abbrev CountsIn : CostNode → CostNode → Type 0
  CountsIn k j = Counts r.service (flow_read r) (heard_read r) k j

  abbrev LeadsIn : costs.Effect → List costs.Effect → costs.Effect → Type 0
  LeadsIn x zs z = Leads r.service (flow_read r) x zs z

  abbrev IsWorking : costs.Effect → Type 0
  IsWorking x = IsOn r.service (flow_read r) x

  -- the first node counts the last, at once or by way of any others
  data Comes : CostNode → CostNode → Type 0 where
    at_once : (k j : CostNode) → Counted k j → Comes k j
    by_way : (k i j : CostNode) → Counted k i → Comes i j → Comes k j

  by_name : (k j : NumberedNode) → kept r k → CountsOn (price r) k j → Comes (name r k) (name r j)
  by_name k j has (looping.once a b there) = at_once (name r k) (name r j) (follows r read k j has there).counts
  by_name k j has (looping.onward a i b there more) =
      let next = follows r read k i has there in
      by_way (name r k) (name r i) (name r j) next.counts (by_name i j next.keeps more)

  joined : (k i j : CostNode) → Comes k i → Comes i j → Comes k j
  joined k i j (at_once a b there) more = by_way k i j there more
  joined k i j (by_way a m b there on) more = by_way k m j there (joined m i j on more)

  kept_next : (k j : CostNode) → Kept r k → Counted k j → Kept r j
  kept_next k j has there = counted_kept r.service (flow_read r) (heard_read r) (read_of r read) k j has there

  comes_met : (k j : CostNode) → Kept r k → Comes k j → IsMet r.service (flow_read r) (heard_read r) j
  comes_met k j has (at_once a b there) = counted_met r.service (flow_read r) (heard_read r) (read_of r read) k j has there
  comes_met k j has (by_way a i b there more) = comes_met i j (kept_next k i has there) more

  -- ONE EFFECT

  -- it comes by an effect
  record Passes (k j : CostNode) : Type 0 where
    pub effect : CostNode
    pub is : is_effect effect ≡ true
    pub to : Comes k effect
    pub behind : (effect ≡ j) ⊎ Comes effect j

  lower : (k j : CostNode) → Kept r k → is_effect k ≡ false → Counted k j → level j < level k
  lower k j has quiet there =
      (of_nodes (IsLow r.service (flow_read r) (heard_read r) (level k)) (price_read r k)
      (node_agrees (set by_test (λ (y : costs.Effect). true) r.service (flow_read r) (heard_read r) (read_of r read)) k (other_is k quiet) has).low j there).1

  -- or goes down in levels
  passes_or_falls : (k j : CostNode) → Kept r k → is_effect k ≡ false → Comes k j → Passes k j ⊎ (level j < level k)
  passes_or_falls k j has quiet (at_once a b there) = inr (lower k j has quiet there)
  passes_or_falls k j has quiet (by_way a i b there more) = by (is_effect i) refl (λ e. passes_or_falls i j (kept_next k i has there) e more)
    where
      less : (l m n : ℕ) → l < m → m < n → l < n
      less l m n s t = omega (arith, s, t)

      of : Passes i j ⊎ (level j < level i) → Passes k j ⊎ (level j < level k)
      of (inl p) = inl (record { effect = p.effect; is = p.is; to = by_way k i p.effect there p.to; behind = p.behind })
      of (inr falls) = inr (less (level j) (level i) (level k) falls (lower k i has quiet there))

      by : (b : Bool) → is_effect i ≡ b → (is_effect i ≡ false → Passes i j ⊎ (level j < level i)) → Passes k j ⊎ (level j < level k)
      by true e rest = inl (record { effect = i; is = e; to = at_once k i there; behind = inr more })
      by false e rest = of (rest e)

  -- an effect from which it comes back to itself
  record IsRound : Type 0 where
    pub effect : CostNode
    pub is : is_effect effect ≡ true
    pub has : Kept r effect
    pub round : Comes effect effect

  round_of : (k : CostNode) → Kept r k → Comes k k → IsRound
  round_of k has round = by (is_effect k) refl
    where
      of : Passes k k ⊎ (level k < level k) → IsRound
      of (inl p) = record { effect = p.effect; is = p.is; has = met_kept r.service (flow_read r) (heard_read r) (read_of r read) p.effect (comes_met k p.effect has p.to); round = back p.behind }
        where
          back : (p.effect ≡ k) ⊎ Comes p.effect k → Comes p.effect p.effect
          back (inl same) = subst (λ (j : CostNode). Comes j p.effect) (sym same) p.to
          back (inr more) = joined p.effect k p.effect more p.to
      of (inr falls) = absurd (omega (arith, falls))

      by : (b : Bool) → is_effect k ≡ b → IsRound
      by true e = record { effect = k; is = e; has = has; round = round }
      by false e = of (passes_or_falls k k has e round)

  -- FROM EFFECT TO EFFECT

  effect_is : (k : CostNode) → is_effect k ≡ true → (x : costs.Effect) × (k ≡ node_of x)
  effect_is (Effect c o n) e = (record { config = c; object = o; number = n }, refl)
  effect_is k e = absurd cc

  -- the node is the effect's own, or one that it counts and that is no effect
  abbrev IsAt : costs.Effect → CostNode → Type 0
  IsAt y k = (k ≡ node_of y) ⊎ (CountsIn (node_of y) k × (is_effect k ≡ false))

  counts_next : (y : costs.Effect) (k j : CostNode) → IsAt y k → Counted k j → CountsIn (node_of y) j
  counts_next y k j (inl is) there = causing.once (node_of y) j (subst (λ (i : CostNode). Counted i j) is there)
  counts_next y k j (inr on) there = counts_more r.service (flow_read r) (heard_read r) (node_of y) k j on.0 on.1 there

  causes_so : (y z : costs.Effect) → IsWorking y → CountsIn (node_of y) (node_of z) → Causes r.service (flow_read r) y z
  causes_so y z on counts = (nodes_cause r.service (flow_read r) (heard_read r) (read_of r read) y on).causes z counts

  leads : (x y : costs.Effect) (k : CostNode) → IsWorking y → IsAt y k → Comes k (node_of x) → (zs : List costs.Effect) × LeadsIn y zs x
  leads x y k on at (at_once a b there) = ([], cycle.once y x (causes_so y x on (counts_next y k (node_of x) at there)))
  leads x y k on at (by_way a i b there more) = by (is_effect i) refl (λ z working here. leads x z i working here more)
    where
      by : (b : Bool) → is_effect i ≡ b → ((z : costs.Effect) → IsWorking z → IsAt z i → (zs : List costs.Effect) × LeadsIn z zs x) → (zs : List costs.Effect) × LeadsIn y zs x
      by false e rest = rest y on (inr (counts_next y k i at there, e))
      by true e rest =
          let own = effect_is i e in
          let causes = causes_so y own.0 on (subst (CountsIn (node_of y)) own.1 (counts_next y k i at there)) in
          let behind = rest own.0 (caused_on r read y own.0 on causes) (inl own.1) in
          (own.0 ∷ behind.0, cycle.onward y own.0 behind.0 x causes behind.1)

  pub loops_lead : HasLoop (price r) (kept r) → NoCycles r.service (flow_read r) → ⊥
  loops_lead loop none =
      let found = round_of (name r loop.node) loop.has (by_name loop.node loop.node loop.has loop.round) in
      let own = effect_is found.effect found.is in
      let round : Comes found.effect (node_of own.0) = subst (λ (j : CostNode). Comes found.effect j) own.1 found.round in
      let met : IsMet r.service (flow_read r) (heard_read r) (node_of own.0) = comes_met found.effect (node_of own.0) found.has round in
      let behind = leads own.0 own.0 found.effect met.0 (inl own.1) round in
      none own.0 behind.0 (record { on = met.0; leads = behind.1 })

-- as it is read
pub looped_read : (r : Reading) (v : Service) (f : Solved) → r.service ≡ v → r.flow ≡ f → IsReading r → HasLoop (price r) (kept r) → NoCycles v (flow_in v f) → ⊥
looped_read r v f service flow read loop none =
    loops_lead r read loop (subst (λ (u : Service). NoCycles u (flow_in u r.flow)) (sym service) (subst (λ (g : Solved). NoCycles v (flow_in v g)) (sym flow) none))
