-- A cycle of the node graph parted at its effects: its stretches are steps, and arrows of such go round.
use Rattle.std.specs.Prelude.{◌≡◌, ◌⊎◌, ◌<◌, ◌≤◌, ◌+◌, ℕ, Bool, true, false, ◌&&◌, not, if◌then◌else◌, List, [], ◌∷◌, ◌++◌, flat_map, get_or, length, map, slice_get, take, unwrap_or, Option, Some, None, refl}
use Rattle.std.specs.List.{cons_option, list_any}
use Rattle.std.specs.Option.{option_map_or}
use Rattle.std.proofs.Common.{inl, inr, ap, ◌∙◌, sym, subst, true≢false}
use Rattle.std.proofs.lemmas.List.{length-map, map-append, take_all, take_more}
use Rattle.std.proofs.lemmas.List.Elements.{filter_map-append}
use Rattle.std.proofs.lemmas.Option.{slice_get-get_or}
use Rattle.mh_model.proofs.ListLemmas.{some_same}
use Rattle.mh_paths.specs.declared.graph.Arrow.{Arrow as Step}
use Rattle.mh_paths.specs.declared.graph.Graph.{Graph}
use Rattle.mh_paths.specs.Chains as chains
use Rattle.mh_paths.specs.Chains.{Chain, arrows_of}
use Rattle.mh_model.specs.Configuration.{present}
use Rattle.mh_model.specs.Service.{Service, part_at}
use Rattle.mh_laws.specs.Costs as costs
use Rattle.mh_laws.specs.Costs.{act}
use Rattle.mh_laws.specs.Each.{Among, Each}
use Rattle.mh_laws.specs.Flow.{Flow}
use Rattle.mh_laws.specs.Layers.{Causes, IsOn}
use Rattle.mh_laws.specs.Price.{counted_in}
use Rattle.mh_laws.proofs.EachLemmas.{each_among, from_mapped, got_among}
use Rattle.mh_flow.specs.Sites.{sites_of}
use Rattle.mh_layers.specs.declared.arrows.arrow.Arrow.{Arrow}
use Rattle.mh_layers.specs.declared.cause.Cause.{Cause}
use Rattle.mh_layers.specs.declared.cycle.Best.{Best}
use Rattle.mh_layers.specs.declared.numbered_node.NumberedNode.{NumberedNode}
use Rattle.mh_layers.specs.declared.numbered_node.NumberedNode.TheVariants as node
use Rattle.mh_layers.specs.declared.cycle.trail.Stretch.{Stretch}
use Rattle.mh_layers.specs.CostNode.{CostNode}
use Rattle.mh_layers.specs.Arrows.{AreFirstArrows, AreGrantedBy, counts, goes_round, granted, is_action_in, is_action_of, is_waited_for, leads, leads_back, meets, puts}
use Rattle.mh_layers.specs.Bridge.{node_of}
use Rattle.mh_layers.specs.Causing as causing
use Rattle.mh_layers.specs.Causing.{Counts, is_effect}
use Rattle.mh_layers.specs.Cycle.{AreFirstCycle, cause_of}
use Rattle.mh_layers.specs.CostNodes.{IsMet}
use Rattle.mh_layers.specs.Layered.{active_nodes}
use Rattle.mh_layers.specs.Layering.{AreLayers, Places, is_laid}
use Rattle.mh_layers.specs.Reading.{IsReading, Reading, flow_read, heard_read, kept, name, number, price, price_read}
use Rattle.mh_layers.specs.EffectSites.{cause_named, effect_named, label_in, node_index}
use Rattle.mh_layers.specs.Stretches.{AreArrowsOf, IsStretch, is_effect_node, nodes_along, stretches}
use Rattle.mh_layers.specs.Trails.{IsActive, IsArrowFor, IsArrowOf, IsStep, LeadsTo}
use Rattle.mh_layers.specs.Walk.{AreBest, IsBest, IsNodeGraphOf, causes_along, unlaid}
use Rattle.mh_layers.specs.NodeGraph.{IsNodeGraph, counted, effect_number, effects_along, if_effect}
use Rattle.mh_layers.proofs.BridgeLemmas.{met_kept}
use Rattle.mh_layers.proofs.CausingLemmas.{counted_met, nodes_cause}
use Rattle.mh_layers.proofs.ChainLemmas.{counts_more}
use Rattle.mh_layers.proofs.GraphLemmas.{node_found}
use Rattle.mh_layers.proofs.LayeredLemmas.{listed_on}
use Rattle.mh_layers.proofs.ReadingLemmas.{numbers_are_names}
use Rattle.mh_layers.proofs.ServeLemmas.{read_of}
use Rattle.mh_layers.proofs.WalkLemmas.{causes_effects, from_filtered, named_back, some_of, take_whole}
use Rattle.mh_layers.proofs.NodeGraphLemmas.{Kept, active_kept, counted_numbered}

-- NODES ONE BEHIND THE OTHER

-- one that another counts
pub record Follows (r : Reading) (k j : NumberedNode) : Type 0 where
  pub counts : Among (counted_in (price_read r (name r k))) (name r j)
  pub met : IsMet r.service (flow_read r) (heard_read r) (name r j)
  pub keeps : kept r j
  pub back : number r (name r j) ≡ j

pub follows : (r : Reading) → IsReading r → (k j : NumberedNode) → kept r k → Among (counted r k) j → Follows r k j
follows r read k j keeps there =
    let from = from_mapped (number r) (counted_in (price_read r (name r k))) j (subst (λ (ns : List NumberedNode). Among ns j) (counted_numbered (number r) (price_read r (name r k))) there) in
    let met = counted_met r.service (flow_read r) (heard_read r) (read_of r read) (name r k) from.0 keeps from.1 in
    let own = met_kept r.service (flow_read r) (heard_read r) (read_of r read) from.0 met in
    let same : from.0 ≡ name r j = sym ((numbers_are_names r read).back from.0 own) ∙ ap (name r) from.2 in
    record {
      counts = subst (λ (i : CostNode). Among (counted_in (price_read r (name r k))) i) same from.1;
      met = subst (λ (i : CostNode). IsMet r.service (flow_read r) (heard_read r) i) same met;
      keeps = met_kept r.service (flow_read r) (heard_read r) (read_of r read) (name r j) (subst (λ (i : CostNode). IsMet r.service (flow_read r) (heard_read r) i) same met);
      back = ap (number r) (sym same) ∙ from.2;
    }

-- from the first on, each counts the next, and this is the last of all
abbrev Goes : Reading → NumberedNode → List NumberedNode → NumberedNode → Type 0
Goes r k [] z = k ≡ z
Goes r k (j ∷ js) z = Among (counted r k) j × Goes r j js z

goes_more : (r : Reading) (k : NumberedNode) (js : List NumberedNode) (u j : NumberedNode) → Goes r k js u → Among (counted r u) j → Goes r k (js ++ j ∷ []) j
goes_more r k [] u j same there = (subst (λ (i : NumberedNode). Among (counted r i) j) (sym same) there, refl)
goes_more r k (i ∷ js) u j goes there = (goes.0, goes_more r i js u j goes.1 there)

nodes_more : (ks : List NumberedNode) (p : List Step) (a : Step) (j : NumberedNode) → slice_get ks a.to ≡ Some j → nodes_along ks (p ++ a ∷ []) ≡ nodes_along ks p ++ j ∷ []
nodes_more ks p a j at =
    filter_map-append (λ (b : Step). slice_get ks b.to) p (a ∷ []) ∙ ap (λ (o : Option NumberedNode). nodes_along ks p ++ cons_option o []) at

-- so do the nodes along a chain of the node graph
abbrev GoesAlong : Reading → List NumberedNode → NumberedNode → List Step → ℕ → Type 0
GoesAlong r ks k p u = (z : NumberedNode) × (slice_get ks u ≡ Some z) × Goes r k (nodes_along ks p) z

chain_goes : (r : Reading) (ks : List NumberedNode) (label : NumberedNode → ℕ) (g : Graph) → IsNodeGraph r ks label g → (n : ℕ) (k : NumberedNode) → slice_get ks n ≡ Some k → (p : List Step) (u : ℕ) → Chain g (arrows_of g n) p u → GoesAlong r ks k p u
chain_goes r ks label g node_graph n k at p u (chains.begin a there) =
    let next = node_graph.arrows n k at a there in
    (next.to, next.place, subst (λ (js : List NumberedNode). Goes r k js next.to) (sym (nodes_more ks [] a next.to next.place)) (next.counts, refl))
chain_goes r ks label g node_graph n k at p u (chains.onward c m a chain there) =
    let before = chain_goes r ks label g node_graph n k at c m chain in
    let next = node_graph.arrows m before.0 before.1 a there in (
      next.to,
      next.place,
      subst (λ (js : List NumberedNode). Goes r k js next.to) (sym (nodes_more ks c a next.to next.place)) (goes_more r k (nodes_along ks c) before.0 next.to before.2 next.counts),
    )

-- EFFECTS AMONG THEM

same_test : (r : Reading) (k : NumberedNode) → is_effect (name r k) ≡ is_effect_node k
same_test r (node.Effect c o n) = refl
same_test r k = refl

name_of_effect : (r : Reading) (k : NumberedNode) → is_effect_node k ≡ true → name r k ≡ node_of (effect_named r k)
name_of_effect r (node.Effect c o n) e = refl
name_of_effect r k e = absurd (true≢false (sym e))

active_next : (r : Reading) (k j : NumberedNode) → Follows r k j → is_effect_node j ≡ true → IsActive r j
active_next r k (node.Effect c o n) next e = record { own = sym next.back; on = next.met.0 }
active_next r k j next e = absurd (true≢false (sym e))

pub active_named : (r : Reading) → IsReading r → (x : costs.Effect) → IsOn r.service (flow_read r) x → IsActive r (effect_number r x)
active_named r read x on = record {
  own = ap (effect_number r) (sym (named_back r read x on));
  on = subst (IsOn r.service (flow_read r)) (sym (named_back r read x on)) on;
}

-- STRETCHES

abbrev CountsIn : Reading → NumberedNode → NumberedNode → Type 0
CountsIn r k j = Counts r.service (flow_read r) (heard_read r) (name r k) (name r j)

-- the trail is at the effect, or between effects: at a node to which the first one leads
abbrev Stands : Reading → NumberedNode → Option NumberedNode → NumberedNode → Type 0
Stands r from None k = from ≡ k
Stands r from (Some first) k =
    Among (counted r from) first × (is_effect_node first ≡ false) × (is_effect_node k ≡ false) × ((first ≡ k) ⊎ CountsIn r first k)

quiet : (r : Reading) (k : NumberedNode) → is_effect_node k ≡ false → is_effect (name r k) ≡ false
quiet r k e = same_test r k ∙ e

-- one node on
counts_on : (r : Reading) (first k j : NumberedNode) → is_effect_node k ≡ false → (first ≡ k) ⊎ CountsIn r first k → Follows r k j → CountsIn r first j
counts_on r first k j e (inl same) next =
    causing.once (name r first) (name r j) (subst (λ (i : NumberedNode). Among (counted_in (price_read r (name r i))) (name r j)) (sym same) next.counts)
counts_on r first k j e (inr more) next =
    counts_more r.service (flow_read r) (heard_read r) (name r first) (name r k) (name r j) more (quiet r k e) next.counts

stands_on : (r : Reading) (from : NumberedNode) (first : Option NumberedNode) (k j : NumberedNode) → Stands r from first k → Among (counted r k) j → Follows r k j → is_effect_node j ≡ false → Stands r from (Some (unwrap_or first j)) j
stands_on r from None k j same there next e =
    (subst (λ (i : NumberedNode). Among (counted r i) j) (sym same) there, e, e, inl refl)
stands_on r from (Some first) k j stands there next e =
    (stands.0, stands.1, e, inr (counts_on r first k j stands.2 stands.3 next))

step_ends : (r : Reading) (from : NumberedNode) (first : Option NumberedNode) (k j : NumberedNode) → IsActive r from → Stands r from first k → Among (counted r k) j → Follows r k j → is_effect_node j ≡ true → IsStep r from (unwrap_or first j) j
step_ends r from None k j active same there next e =
    let ends = active_next r k j next e in
    record {
      from_number = active.own;
      to_number = ends.own;
      from_on = active.on;
      to_on = ends.on;
      counted = subst (λ (i : NumberedNode). Among (counted r i) j) (sym same) there;
      onward = inl ends.own;
    }
step_ends r from (Some first) k j active stands there next e =
    let ends = active_next r k j next e in
    record {
      from_number = active.own;
      to_number = ends.own;
      from_on = active.on;
      to_on = ends.on;
      counted = stands.0;
      onward =
          inr (
            quiet r first stands.1,
            subst (λ (i : CostNode). Counts r.service (flow_read r) (heard_read r) (name r first) i) (name_of_effect r j e) (counts_on r first k j stands.2 stands.3 next),
          );
    }

-- each is a step from where the one before ends, the first from this node, and the last to this one
abbrev pub Ways : Reading → NumberedNode → List Stretch → NumberedNode → Type 0
Ways r k [] z = k ≡ z
Ways r k (s ∷ ss) z = (s.from ≡ k) × IsStretch r s × Ways r s.to ss z

ways_of : (r : Reading) → IsReading r → (from : NumberedNode) → IsActive r from → (first : Option NumberedNode) (k : NumberedNode) → kept r k → Stands r from first k → (js : List NumberedNode) (z : NumberedNode) → is_effect_node z ≡ true → Goes r k js z → Ways r from (stretches from first js) z
ways_of r read from active None k keeps same [] z e goes = same ∙ goes
ways_of r read from active (Some first) k keeps stands [] z e goes = absurd (true≢false (sym e ∙ ap is_effect_node (sym goes) ∙ stands.2))
ways_of r read from active first k keeps stands (j ∷ js) z e goes =
    let next = follows r read k j keeps goes.0 in
    by (is_effect_node j) refl next
    (λ h. ways_of r read j (active_next r k j next h) None j next.keeps refl js z e goes.1)
    (λ h. ways_of r read from active (Some (unwrap_or first j)) j next.keeps (stands_on r from first k j stands goes.0 next h) js z e goes.1)
  where
    by : (b : Bool) → is_effect_node j ≡ b → Follows r k j → (is_effect_node j ≡ true → Ways r j (stretches j None js) z) → (is_effect_node j ≡ false → Ways r from (stretches from (Some (unwrap_or first j)) js) z)
        → Ways r from (if b then record { from = from; first = unwrap_or first j; to = j } ∷ stretches j None js else stretches from (Some (unwrap_or first j)) js) z
    by true h next here more = (refl, step_ends r from first k j active stands goes.0 next h, here h)
    by false h next here more = more h

pub each_stretch : (r : Reading) (k : NumberedNode) (ss : List Stretch) (z : NumberedNode) → Ways r k ss z → Each (IsStretch r) ss
each_stretch r k [] z ways = tt
each_stretch r k (s ∷ ss) z ways = (ways.1, each_stretch r s.to ss z ways.2)

-- of a cycle of the node graph they lead round
pub ways_round : (r : Reading) → IsReading r → (ks : List NumberedNode) (label : NumberedNode → ℕ) (g : Graph) → IsNodeGraph r ks label g → (n : ℕ) (k : NumberedNode) → slice_get ks n ≡ Some k → IsActive r k → (p : List Step) → Chain g (arrows_of g n) p n → Ways r k (stretches k None (nodes_along ks p)) k
ways_round r read ks label g node_graph n k at active p chain =
    let goes = chain_goes r ks label g node_graph n k at p n chain in
    let last : goes.0 ≡ k = some_same (sym goes.1 ∙ at) in
    ways_of r read k active None k (node_graph.kept n k at) refl (nodes_along ks p) k (ap is_effect_node active.own) (subst (λ (z : NumberedNode). Goes r k (nodes_along ks p) z) last goes.2)

-- THE FIRST EFFECT OF A STEP CAUSES THE LAST

pub step_causes : (r : Reading) → IsReading r → (from first to : NumberedNode) → IsStep r from first to → Causes r.service (flow_read r) (effect_named r from) (effect_named r to)
step_causes r read from first to step =
    (nodes_cause r.service (flow_read r) (heard_read r) (read_of r read) (effect_named r from) step.from_on).causes (effect_named r to) (by step.onward)
  where
    own : name r from ≡ node_of (effect_named r from)
    own = name_of_effect r from (ap is_effect_node step.from_number)

    next : Follows r from first
    next = follows r read from first (subst (Kept r) (sym own) (active_kept r read (effect_named r from) step.from_on)) step.counted

    there : Among (counted_in (price_read r (node_of (effect_named r from)))) (name r first)
    there = subst (λ (k : CostNode). Among (counted_in (price_read r k)) (name r first)) own next.counts

    by : LeadsTo r first (effect_named r to) → Counts r.service (flow_read r) (heard_read r) (node_of (effect_named r from)) (node_of (effect_named r to))
    by (inl same) =
        causing.once (node_of (effect_named r from)) (node_of (effect_named r to))
        (subst (λ (k : CostNode). Among (counted_in (price_read r (node_of (effect_named r from)))) k)
        (ap (name r) same ∙ (numbers_are_names r read).back (node_of (effect_named r to)) (active_kept r read (effect_named r to) step.to_on)) there)
    by (inr more) = causing.onward (node_of (effect_named r from)) (name r first) (node_of (effect_named r to)) there more.0 more.1

-- CAUSES

abbrev froms : List Stretch → List NumberedNode
froms ss = map (λ (s : Stretch). s.from) ss

abbrev tos : List Stretch → List NumberedNode
tos ss = map (λ (s : Stretch). s.to) ss

ends_effects : (from : NumberedNode) (first : Option NumberedNode) (js : List NumberedNode) → tos (stretches from first js) ≡ flat_map if_effect js
ends_effects from first [] = refl
ends_effects from first (node.Effect c o n ∷ js) = ap (λ (ks : List NumberedNode). node.Effect c o n ∷ ks) (ends_effects (node.Effect c o n) None js)
ends_effects from first (j ∷ js) = ends_effects from (Some (unwrap_or first j)) js

nodes_effects : (ks : List NumberedNode) (p : List Step) → flat_map if_effect (nodes_along ks p) ≡ effects_along ks p
nodes_effects ks [] = refl
nodes_effects ks (a ∷ p) = by (slice_get ks a.to) (nodes_effects ks p)
  where
    by : (o : Option NumberedNode) → flat_map if_effect (nodes_along ks p) ≡ effects_along ks p → flat_map if_effect (cons_option o (nodes_along ks p)) ≡ option_map_or if_effect o [] ++ effects_along ks p
    by None more = more
    by (Some k) more = ap (λ (es : List NumberedNode). if_effect k ++ es) more

turned : (r : Reading) (k : NumberedNode) (ss : List Stretch) (z : NumberedNode) → Ways r k ss z → froms ss ++ z ∷ [] ≡ k ∷ tos ss
turned r k [] z same = ap (λ (j : NumberedNode). j ∷ []) (sym same)
turned r k (s ∷ ss) z ways = λ i. ways.0 i ∷ turned r s.to ss z ways.2 i

cause_of_effect : (r : Reading) (k : NumberedNode) → is_effect_node k ≡ true → cause_of r.service (effect_named r k) ≡ cause_named r k
cause_of_effect r (node.Effect c o n) e = refl
cause_of_effect r k e = absurd (true≢false (sym e))

abbrev causes : List Arrow → List Cause
causes arrows = map (λ (a : Arrow). a.cause) arrows

arrow_causes : (r : Reading) (ss : List Stretch) (arrows : List Arrow) → Each (IsStretch r) ss → AreArrowsOf r ss arrows → causes arrows ≡ map (cause_named r) (froms ss)
arrow_causes r [] [] steps are = refl
arrow_causes r [] (a ∷ arrows) steps are = absurd cc
arrow_causes r (s ∷ ss) [] steps are = absurd cc
arrow_causes r (s ∷ ss) (a ∷ arrows) steps are =
    let own : a.cause ≡ cause_named r s.from = are.0.cause ∙ cause_of_effect r s.from (ap is_effect_node steps.0.from_number) in
    λ i. own i ∷ arrow_causes r ss arrows steps.1 are.1 i

-- they are the causes along the trail, from the first on
pub causes_round : (r : Reading) (ks : List NumberedNode) (p : List Step) (k : NumberedNode) (x : Cause) (arrows : List Arrow) → Ways r k (stretches k None (nodes_along ks p)) k → AreArrowsOf r (stretches k None (nodes_along ks p)) arrows → x ≡ cause_named r k
    → causes arrows ≡ take (length (causes_along r ks p)) (x ∷ causes_along r ks p)
causes_round r ks p k x arrows ways are is =
    arrow_causes r ss arrows (each_stretch r k ss k ways) are
    ∙ sym (take_whole (map (cause_named r) (froms ss)) (cause_named r k))
    ∙ (λ i. take (long i) (whole i))
  where
    ss : List Stretch
    ss = stretches k None (nodes_along ks p)

    along : map (cause_named r) (tos ss) ≡ causes_along r ks p
    along = ap (map (cause_named r)) (ends_effects k None (nodes_along ks p) ∙ nodes_effects ks p) ∙ sym (causes_effects r ks p)

    long : length (map (cause_named r) (froms ss)) ≡ length (causes_along r ks p)
    long =
        length-map (froms ss) (cause_named r) ∙ length-map ss (λ (s : Stretch). s.from) ∙ sym (length-map ss (λ (s : Stretch). s.to))
        ∙ sym (length-map (tos ss) (cause_named r)) ∙ ap length along

    whole : map (cause_named r) (froms ss) ++ cause_named r k ∷ [] ≡ x ∷ causes_along r ks p
    whole =
        sym (map-append (cause_named r) (froms ss) (k ∷ [])) ∙ ap (map (cause_named r)) (turned r k ss k ways)
        ∙ (λ i. sym is i ∷ along i)

-- ARROWS LEAD ROUND

both_hold : {X : Type 0} (f g : X → Bool) (o : Option X) → option_map_or f o false ≡ true → option_map_or g o false ≡ true → option_map_or (λ x. f x && g x) o false ≡ true
both_hold f g None h k = absurd cc
both_hold f g (Some x) h k = λ i. h i && k i

-- an arrow leads to that of the effect which it puts to work
leads_on : (v : Service) (w : Flow) (x y z : costs.Effect) (a b : Arrow) → IsArrowFor v w x y a → IsArrowFor v w y z b → leads v a b ≡ true
leads_on v w x y z a b first next = λ i. put i && met i
  where
    put : list_any (λ s. is_action_of a s && puts v a b s) (sites_of (present v a.cause.config)) ≡ true
    put =
        (λ i. list_any (λ s. is_action_of a s && counts (record { config = (next.cause i).config; object = (next.cause i).at; number = first.by i }) (act v (granted v a (next.cause i).config s.act) (first.cause i).config s.act)) (sites_of (present v (first.cause i).config)))
        ∙ first.puts

    met : meets v a.by b ≡ true
    met =
        (λ i. option_map_or (λ p. is_waited_for a.by p && is_action_in (first.by i) b p) (part_at (next.cause i).at (present v (next.cause i).config)) false)
        ∙ both_hold (is_waited_for a.by) (is_action_in y.number b) (part_at y.object (present v y.config)) first.waited next.own

leads_round : (r : Reading) (z : Arrow) (first second k : NumberedNode) (s : Stretch) (ss : List Stretch) (a : Arrow) (arrows : List Arrow) → IsArrowOf r first second z → Ways r k (s ∷ ss) first → AreArrowsOf r (s ∷ ss) (a ∷ arrows) → leads_back r.service z (a ∷ arrows) ≡ true
leads_round r z first second k s [] a [] to ways are =
    leads_on r.service (flow_read r) (effect_named r s.from) (effect_named r s.to) (effect_named r second) a z are.0
    (subst (λ (j : NumberedNode). IsArrowOf r j second z) (sym ways.2) to)
leads_round r z first second k s [] a (b ∷ arrows) to ways are = absurd cc
leads_round r z first second k s (t ∷ ss) a [] to ways are = absurd cc
leads_round r z first second k s (t ∷ ss) a (b ∷ arrows) to ways are =
    let next : leads r.service a b ≡ true =
    leads_on r.service (flow_read r) (effect_named r s.from) (effect_named r s.to) (effect_named r t.to) a b are.0
    (subst (λ (j : NumberedNode). IsArrowOf r j t.to b) ways.2.0 are.1.0) in
    λ i. next i && leads_round r z first second s.to t ss b arrows to ways.2 are.1 i

each_granted : (r : Reading) (ss : List Stretch) (arrows : List Arrow) → AreArrowsOf r ss arrows → Each (AreGrantedBy r.service (flow_read r)) arrows
each_granted r [] [] are = tt
each_granted r [] (a ∷ arrows) are = absurd cc
each_granted r (s ∷ ss) [] are = absurd cc
each_granted r (s ∷ ss) (a ∷ arrows) are = (are.0.granted, each_granted r ss arrows are.1)

pub first_arrows : (r : Reading) (k : NumberedNode) (ss : List Stretch) (arrows : List Arrow) → Ways r k ss k → AreArrowsOf r ss arrows → AreFirstCycle r.service (flow_read r) (causes arrows) → AreFirstArrows r.service (flow_read r) arrows
first_arrows r k ss arrows ways are cycle = record { cycle = cycle; round = by ss arrows ways are cycle; granted = each_granted r ss arrows are }
  where
    by : (ss : List Stretch) (arrows : List Arrow) → Ways r k ss k → AreArrowsOf r ss arrows → AreFirstCycle r.service (flow_read r) (causes arrows) → goes_round r.service arrows ≡ true
    by [] [] ways are cycle = let none = cycle.causes in absurd cc
    by [] (a ∷ arrows) ways are cycle = absurd cc
    by (s ∷ ss) [] ways are cycle = absurd cc
    by (s ∷ ss) (a ∷ arrows) ways are cycle =
        leads_round r a k s.to k s ss a arrows (subst (λ (j : NumberedNode). IsArrowOf r j s.to a) ways.0 are.0) ways are

-- OF THE FIRST CYCLE

-- the first effect on a cycle, among all active effects that are not laid: the stretches of its trail lead round
pub ways_found : (r : Reading) → IsReading r → (ts : Places) (all left roots tried ks : List NumberedNode) (g : Graph) (best : Option Best) (b : Best) (p : List Step) → all ≡ active_nodes r → left ≡ unlaid ts all → roots ≡ left → tried ≡ left → IsNodeGraphOf r roots ks g → AreBest r ks g tried best → best ≡ Some b → p ≡ b.trail.items
    → Ways r b.node (stretches b.node None (nodes_along ks p)) b.node
ways_found r read ts all left roots tried ks g best b p every is these those node_graph found some trail =
    subst (λ (q : List Step). Ways r b.node (stretches b.node None (nodes_along ks q)) b.node) (sym trail)
    (ways_round r read ks (label_in r node_graph.effect_sites) g node_graph.node_graph (node_index ks b.node) b.node place active b.trail.items own.first.chain)
  where
    own : IsBest r ks g tried b
    own = subst (AreBest r ks g tried) some found

    place : slice_get ks (node_index ks b.node) ≡ Some b.node
    place = node_found ks b.node (each_among (Among ks) roots b.node node_graph.listed (subst (λ (xs : List NumberedNode). Among xs b.node) (those ∙ sym these) own.there))

    listed : Among (active_nodes r) b.node
    listed =
        from_filtered (λ k. not (is_laid ts k)) (active_nodes r) b.node
        (subst (λ (xs : List NumberedNode). Among xs b.node) (those ∙ is ∙ ap (unlaid ts) every) own.there)

    active : IsActive r b.node
    active = let x = listed_on r b.node listed in subst (IsActive r) x.2 (active_named r read x.0 x.1)

pub steps_found : (r : Reading) → IsReading r → (ts : Places) (all left roots tried ks : List NumberedNode) (g : Graph) (best : Option Best) (b : Best) (p : List Step) → all ≡ active_nodes r → left ≡ unlaid ts all → roots ≡ left → tried ≡ left → IsNodeGraphOf r roots ks g → AreBest r ks g tried best → best ≡ Some b → p ≡ b.trail.items
    → Each (IsStretch r) (stretches b.node None (nodes_along ks p))
steps_found r read ts all left roots tried ks g best b p every is these those node_graph found some trail =
    each_stretch r b.node (stretches b.node None (nodes_along ks p)) b.node (ways_found r read ts all left roots tried ks g best b p every is these those node_graph found some trail)

pub arrows_found : (r : Reading) → IsReading r → (ts : Places) → AreLayers (price r) (kept r) ts → (all left roots tried ks : List NumberedNode) (g : Graph) (best : Option Best) (b : Best) (p : List Step) (arrows : List Arrow) → all ≡ active_nodes r → left ≡ unlaid ts all → roots ≡ left → tried ≡ left → IsNodeGraphOf r roots ks g → AreBest r ks g tried best → best ≡ Some b → p ≡ b.trail.items
    → AreArrowsOf r (stretches b.node None (nodes_along ks p)) arrows → AreFirstArrows r.service (flow_read r) arrows
arrows_found r read ts layers all left roots tried ks g best b p arrows every is these those node_graph found some trail are =
    let ways = ways_found r read ts all left roots tried ks g best b p every is these those node_graph found some trail in
    let own : IsBest r ks g tried b = subst (AreBest r ks g tried) some found in
    let along = causes_round r ks p b.node b.cause arrows ways are own.cause in
    first_arrows r b.node (stretches b.node None (nodes_along ks p)) arrows ways are
    (some_of r read ts layers all left roots tried ks g best b (causes arrows) every is these those node_graph found some
    (along ∙ ap (λ (q : List Step). take (length (causes_along r ks q)) (b.cause ∷ causes_along r ks q)) trail))

-- IN A LOOP

pub step_at : (r : Reading) (ss : List Stretch) (i : ℕ) (d : Stretch) → Each (IsStretch r) ss → i < length ss → IsStretch r (get_or ss i d)
step_at r ss i d steps less = each_among (IsStretch r) ss (get_or ss i d) steps (got_among ss i (get_or ss i d) (slice_get-get_or ss i d less))

arrows_joined : (r : Reading) (ss : List Stretch) (arrows : List Arrow) (s : Stretch) (a : Arrow) → AreArrowsOf r ss arrows → IsArrowOf r s.from s.to a → AreArrowsOf r (ss ++ s ∷ []) (arrows ++ a ∷ [])
arrows_joined r [] [] s a are own = (own, tt)
arrows_joined r [] (b ∷ arrows) s a are own = absurd cc
arrows_joined r (t ∷ ss) [] s a are own = absurd cc
arrows_joined r (t ∷ ss) (b ∷ arrows) s a are own = (are.0, arrows_joined r ss arrows s a are.1 own)

pub arrows_more : (r : Reading) (ss : List Stretch) (i : ℕ) (d : Stretch) (a : Arrow) (old new : List Arrow) → i < length ss → AreArrowsOf r (take i ss) old → IsArrowOf r (get_or ss i d).from (get_or ss i d).to a → new ≡ old ++ a ∷ [] → AreArrowsOf r (take (i + 1) ss) new
arrows_more r ss i d a old new less are own now =
    subst (λ (ts : List Stretch). AreArrowsOf r ts new) (sym (take_more ss i d less))
    (subst (λ (rest : List Arrow). AreArrowsOf r (take i ss ++ get_or ss i d ∷ []) rest) (sym now) (arrows_joined r (take i ss) old (get_or ss i d) a are own))

pub arrows_all : (r : Reading) (ss : List Stretch) (i : ℕ) (arrows : List Arrow) → length ss ≤ i → AreArrowsOf r (take i ss) arrows → AreArrowsOf r ss arrows
arrows_all r ss i arrows far are = subst (λ (ts : List Stretch). AreArrowsOf r ts arrows) (take_all i ss far) are
