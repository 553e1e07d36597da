-- What an action comes to, done to one object: what it counts by nodes it counts by effects.
use Rattle.std.specs.Prelude.{◌≡◌, ◌⊎◌, ℕ, true, false, List, refl}
use Rattle.std.proofs.Common.{inl, inr, ap, ◌∙◌, sym, subst}
use Rattle.mh_base.specs.declared.obj_ref.ObjRef.{ObjRef}
use Rattle.mh_model.specs.declared.act.Act.{Act}
use Rattle.mh_model.specs.declared.config.Config.{Config}
use Rattle.mh_model.specs.Service.{Service}
use Rattle.mh_laws.specs.Costs as costs
use Rattle.mh_laws.specs.Each.{Among}
use Rattle.mh_laws.specs.Flow.{Flow, reached}
use Rattle.mh_laws.specs.Layers.{IsOn}
use Rattle.mh_laws.specs.Price.{Price, counted_in}
use Rattle.mh_laws.proofs.EachLemmas.{from_mapped}
use Rattle.mh_laws.proofs.PriceLemmas.{of_nodes}
use Rattle.mh_layers.specs.declared.numbered_node.NumberedNode.{NumberedNode}
use Rattle.mh_layers.specs.CostNode.{CostNode}
use Rattle.mh_layers.specs.Arrows.{counts}
use Rattle.mh_layers.specs.Bridge.{IsRead, node_of}
use Rattle.mh_layers.specs.Causing.{Counts, is_effect}
use Rattle.mh_layers.specs.Applied.{CountsNode, puts_so}
use Rattle.mh_layers.specs.CostNodes.{Heard, IsKept, level, stands_for}
use Rattle.mh_layers.specs.Reading.{IsReading, Reading, flow_read, heard_read, name, number}
use Rattle.mh_layers.specs.Trails.{LeadsTo}
use Rattle.mh_layers.proofs.ActAgreeLemmas.{done_agrees}
use Rattle.mh_layers.proofs.AgreeLemmas.{Agrees, IsLow}
use Rattle.mh_layers.proofs.BridgeLemmas.{met_kept}
use Rattle.mh_layers.proofs.CausingLemmas.{StandsFor, counts_price, from_node, other_is, tested}
use Rattle.mh_layers.proofs.FocusLemmas.{among_counts}
use Rattle.mh_layers.proofs.NodeAgreeLemmas.{node_agrees}
use Rattle.mh_layers.proofs.ReadingLemmas.{numbers_are_names}
use Rattle.mh_layers.proofs.ServeLemmas.{read_of}
use Rattle.mh_layers.proofs.NodeGraphLemmas.{active_kept, counted_numbered, number_tells}

-- the node is the effect's own, or one that is no effect and counts it
abbrev Shows : Service → Flow → Heard → CostNode → costs.Effect → Type 0
Shows v w h k y = (k ≡ node_of y) ⊎ ((is_effect k ≡ false) × Counts v w h k (node_of y))

-- a price counts the effect where the price over nodes counts such a node
shown : (v : Service) (w : Flow) (h : Heard) (read : IsRead v w h) (y : costs.Effect) (n : ℕ) (p : Price CostNode) (q : Price costs.Effect) → Agrees (tested v w h read y) n p q → (k : CostNode) → Among (counted_in p) k → Shows v w h k y → Among (counted_in q) y
shown v w h read y n p q a k there shows = from_node v w h read y n p q a k there (stands shows)
  where
    stands : Shows v w h k y → StandsFor v w y k
    stands (inl same) = subst (λ (j : CostNode). StandsFor v w y j) (sym same) (inl refl)
    stands (inr more) =
        let kept = met_kept v w h read k (of_nodes (IsLow v w h n) p a.low k there).0 in
        counts_price v w h read y (level k) (stands_for v w k) k (node_of y) (node_agrees (tested v w h read y) k (other_is k more.0) kept) kept refl more.1

-- the nodes of an action by their numbers
pub deed_counts : (r : Reading) → IsReading r → (c : Config) → reached (flow_read r) c ≡ true → (a : Act) (t : ObjRef) (first : NumberedNode) (y : costs.Effect) → IsOn r.service (flow_read r) y → CountsNode r c a t first → LeadsTo r first y
    → counts y (costs.done_to r.service (flow_read r) c a.name a.arguments t) ≡ true
deed_counts r read c here a t first y on has leads =
    among_counts y (costs.done_to r.service (flow_read r) c a.name a.arguments t)
    (shown r.service (flow_read r) (heard_read r) (read_of r read) y 6 price (costs.done_to r.service (flow_read r) c a.name a.arguments t) agrees from.0 from.1 (shows leads))
  where
    price : Price CostNode
    price = puts_so r c a t

    agrees : Agrees (tested r.service (flow_read r) (heard_read r) (read_of r read) y) 6 (puts_so r c a t) (costs.done_to r.service (flow_read r) c a.name a.arguments t)
    agrees = done_agrees (tested r.service (flow_read r) (heard_read r) (read_of r read) y) c here a.name a.arguments t

    from : (k : CostNode) × Among (counted_in (puts_so r c a t)) k × (number r k ≡ first)
    from =
        from_mapped (number r) (counted_in price) first
        (subst (λ (ns : List NumberedNode). Among ns first) (counted_numbered (number r) price) has)

    kept : IsKept r.service (flow_read r) (heard_read r) from.0
    kept = met_kept r.service (flow_read r) (heard_read r) (read_of r read) from.0 (of_nodes (IsLow r.service (flow_read r) (heard_read r) 6) price agrees.low from.0 from.1).0

    named : name r first ≡ from.0
    named = ap (name r) (sym from.2) ∙ (numbers_are_names r read).back from.0 kept

    shows : LeadsTo r first y → Shows r.service (flow_read r) (heard_read r) from.0 y
    shows (inl own) = inl (number_tells r read from.0 (node_of y) kept (active_kept r read y on) (from.2 ∙ own))
    shows (inr more) =
        inr (
          ap is_effect (sym named) ∙ more.0,
          subst (λ (k : CostNode). Counts r.service (flow_read r) (heard_read r) k (node_of y)) named more.1,
        )
