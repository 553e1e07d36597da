-- The graph of a service's nodes: its cycles tell of effects that put themselves to work, and of nothing else.
use Rattle.std.specs.Prelude.{◌≡◌, ◌⊎◌, ◌<◌, ℕ, true, false, List, [], ◌∷◌, ◌++◌, map, slice_get, Option, Some, None, refl}
use Rattle.std.specs.List.{Contains}
use Rattle.std.specs.Option.{option_map_or}
use Rattle.std.proofs.Common.{arith, inl, inr, ap, ◌∙◌, sym, subst, append-nil, true≢false}
use Rattle.std.proofs.Math.Seq.{append_snoc}
use Rattle.std.proofs.lemmas.List.{map-append}
use Rattle.mh_model.proofs.ListLemmas.{some_same}
use Rattle.mh_paths.specs.declared.graph.Arrow.{Arrow}
use Rattle.mh_paths.specs.declared.graph.Graph.{Graph}
use Rattle.mh_paths.specs.Chains as chains
use Rattle.mh_paths.specs.Chains.{Chain, arrows_of, labels_along}
use Rattle.mh_laws.specs.Costs as costs
use Rattle.mh_laws.specs.Each.{Among, Each}
use Rattle.mh_laws.specs.Layers.{Causes, IsOn}
use Rattle.mh_laws.specs.Price.{Price, Nothing, One, Node, Plus, Most, counted_in}
use Rattle.mh_laws.proofs.EachLemmas.{among_mapped, from_mapped, got_among}
use Rattle.mh_layers.specs.declared.numbered_node.NumberedNode.{NumberedNode}
use Rattle.mh_layers.specs.CostNode.{CostNode, Effect}
use Rattle.mh_layers.specs.Bridge.{has_by, node_of, rank_by}
use Rattle.mh_layers.specs.Causing as causing
use Rattle.mh_layers.specs.Causing.{Counts, is_effect}
use Rattle.mh_layers.specs.Cycle as cycle
use Rattle.mh_layers.specs.Cycle.{Leads}
use Rattle.mh_layers.specs.CostNodes.{IsKept, IsMet}
use Rattle.mh_layers.specs.Layering.{AreLayers, Places, is_laid}
use Rattle.mh_layers.specs.Numbered.{numbered}
use Rattle.mh_layers.specs.Reading.{IsReading, Reading, flow_read, heard_read, kept, name, number, price, price_read}
use Rattle.mh_layers.specs.NodeGraph.{IsNodeGraph, NodeGraphsTell, counted, effect_number, effect_to, effects_along, if_effect, label_to}
use Rattle.mh_layers.proofs.BridgeLemmas.{met_kept}
use Rattle.mh_layers.proofs.CausingLemmas.{counted_kept, counted_met, effect_kept, node_tells, nodes_cause}
use Rattle.mh_layers.proofs.ChainLemmas.{Led, Walk, along, chain_more, counts_met, counts_more, effects_more, labels_more, leads_fall, led_more, nothing, nowhere, silent_more, somewhere}
use Rattle.mh_layers.proofs.ReadingLemmas.{numbers_are_names}
use Rattle.mh_layers.proofs.ServeLemmas.{read_of, serves}

-- What is said of a reading

abbrev pub Kept : Reading → CostNode → Type 0
Kept r k = IsKept r.service (flow_read r) (heard_read r) k

abbrev Counted : Reading → CostNode → CostNode → Type 0
Counted r k j = Among (counted_in (price_read r k)) j

abbrev CountsIn : Reading → CostNode → CostNode → Type 0
CountsIn r k j = Counts r.service (flow_read r) (heard_read r) k j

abbrev LeadsIn : Reading → costs.Effect → List costs.Effect → costs.Effect → Type 0
LeadsIn r x zs z = Leads r.service (flow_read r) x zs z

abbrev pub IsActive : Reading → costs.Effect → Type 0
IsActive r x = IsOn r.service (flow_read r) x

pub active_kept : (r : Reading) → IsReading r → (x : costs.Effect) → IsActive r x → Kept r (node_of x)
active_kept r read x on = effect_kept r.service (flow_read r) (heard_read r) (read_of r read) x on

-- Numbers of what is counted

pub counted_numbered : {K L : Type 0} (g : K → L) (p : Price K) → counted_in (numbered g p) ≡ map g (counted_in p)
counted_numbered g Nothing = refl
counted_numbered g One = refl
counted_numbered g (Node k) = refl
counted_numbered g (Plus p q) = (λ i. counted_numbered g p i ++ counted_numbered g q i) ∙ sym (map-append g (counted_in p) (counted_in q))
counted_numbered g (Most p q) = (λ i. counted_numbered g p i ++ counted_numbered g q i) ∙ sym (map-append g (counted_in p) (counted_in q))

numbers_counted : (r : Reading) → IsReading r → (k : CostNode) → Kept r k → counted r (number r k) ≡ map (number r) (counted_in (price_read r k))
numbers_counted r read k kept =
    counted_numbered (number r) (price_read r (name r (number r k)))
    ∙ ap (λ (j : CostNode). map (number r) (counted_in (price_read r j))) ((numbers_are_names r read).back k kept)

pub counts_number : (r : Reading) → IsReading r → (k : CostNode) → Kept r k → (j : CostNode) → Counted r k j → Among (counted r (number r k)) (number r j)
counts_number r read k kept j there =
    subst (λ (ns : List NumberedNode). Among ns (number r j)) (sym (numbers_counted r read k kept)) (among_mapped (number r) (counted_in (price_read r k)) j there)

pub number_counts : (r : Reading) → IsReading r → (k : CostNode) → Kept r k → (n : NumberedNode) → Among (counted r (number r k)) n → (j : CostNode) × Counted r k j × (number r j ≡ n)
number_counts r read k kept n there =
    from_mapped (number r) (counted_in (price_read r k)) n (subst (λ (ns : List NumberedNode). Among ns n) (numbers_counted r read k kept) there)

pub number_tells : (r : Reading) → IsReading r → (k j : CostNode) → Kept r k → Kept r j → number r k ≡ number r j → k ≡ j
number_tells r read k j kept there same =
    sym ((numbers_are_names r read).back k kept) ∙ ap (name r) same ∙ (numbers_are_names r read).back j there

-- Labels of numbers

other_label : (r : Reading) (label : NumberedNode → ℕ) (k : CostNode) → is_effect k ≡ false → label_to label (number r k) ≡ None
other_label r label (Effect c o n) quiet = absurd (true≢false quiet)
other_label r label k quiet = refl

no_effect : (r : Reading) (k : CostNode) → is_effect k ≡ false → if_effect (number r k) ≡ []
no_effect r (Effect c o n) quiet = absurd (true≢false quiet)
no_effect r k quiet = refl

abbrev labels_at : Reading → (NumberedNode → ℕ) → List costs.Effect → List ℕ
labels_at r label xs = map (λ z. label (effect_number r z)) xs

abbrev leads_to : (r : Reading) → List NumberedNode → Arrow → CostNode → Type 0
leads_to r ks a k = slice_get ks a.to ≡ Some (number r k)

effect_at_end : (r : Reading) (ks : List NumberedNode) (a : Arrow) (k : CostNode) → leads_to r ks a k → effect_to ks a ≡ if_effect (number r k)
effect_at_end r ks a k at = ap (λ (o : Option NumberedNode). option_map_or if_effect o []) at

-- what an active effect causes is active
pub caused_on : (r : Reading) → IsReading r → (x y : costs.Effect) → IsActive r x → Causes r.service (flow_read r) x y → IsActive r y
caused_on r read x y on causes =
    (counts_met r.service (flow_read r) (heard_read r) (read_of r read) (node_of x) (node_of y) (active_kept r read x on)
    ((nodes_cause r.service (flow_read r) (heard_read r) (read_of r read) x on).counted y causes)).0

-- From ways of effects to chains

-- a chain from the place with this number to that of this node, and its labels
record Reaches (r : Reading) (ks : List NumberedNode) (g : Graph) (n : ℕ) (k : NumberedNode) (labels : List ℕ) : Type 0 where
  pub path : List Arrow
  pub index : ℕ
  pub chain : Chain g (arrows_of g n) path index
  pub place : slice_get ks index ≡ Some k
  pub along : labels_along path ≡ labels

counts_chain : (r : Reading) (ks : List NumberedNode) (label : NumberedNode → ℕ) (g : Graph) → IsReading r → IsNodeGraph r ks label g → (n : ℕ) (p : List Arrow) (u : ℕ) (k j : CostNode) (y : costs.Effect) → j ≡ node_of y → Kept r k → slice_get ks u ≡ Some (number r k) → Walk g n p u → CountsIn r k j
    → Reaches r ks g n (effect_number r y) (labels_along p ++ label (effect_number r y) ∷ [])
counts_chain r ks label g read node_graph n p u k j y is kept at walk (causing.once a b there) =
    let next = node_graph.all u (number r k) at (number r j) (counts_number r read k kept j there) in
    record {
      path = p ++ next.0 ∷ [];
      index = next.0.to;
      chain = chain_more g n p u next.0 walk next.1;
      place = next.2 ∙ ap (λ (i : CostNode). Some (number r i)) is;
      along = labels_more p next.0 (Some (label (effect_number r y))) (next.3 ∙ ap (λ (i : CostNode). label_to label (number r i)) is);
    }
counts_chain r ks label g read node_graph n p u k j y is kept at walk (causing.onward a i b there quiet more) =
    let next = node_graph.all u (number r k) at (number r i) (counts_number r read k kept i there) in
    let chain = chain_more g n p u next.0 walk next.1 in
    let rest = counts_chain r ks label g read node_graph n (p ++ next.0 ∷ []) next.0.to i j y is (counted_kept r.service (flow_read r) (heard_read r) (read_of r read) k i kept there) next.2 (along (p ++ next.0 ∷ []) next.0.to chain) more in
    record {
      path = rest.path;
      index = rest.index;
      chain = rest.chain;
      place = rest.place;
      along = rest.along ∙ ap (λ (ls : List ℕ). ls ++ label (effect_number r y) ∷ []) (silent_more p next.0 (next.3 ∙ other_label r label i quiet));
    }

leads_chain : (r : Reading) (ks : List NumberedNode) (label : NumberedNode → ℕ) (g : Graph) → IsReading r → IsNodeGraph r ks label g → (n : ℕ) (p : List Arrow) (u : ℕ) (x : costs.Effect) (zs : List costs.Effect) (z : costs.Effect) → IsActive r x → slice_get ks u ≡ Some (effect_number r x) → Walk g n p u → LeadsIn r x zs z
    → Reaches r ks g n (effect_number r z) (labels_along p ++ labels_at r label (zs ++ z ∷ []))
leads_chain r ks label g read node_graph n p u x zs z on at walk (cycle.once a b causes) =
    counts_chain r ks label g read node_graph n p u (node_of x) (node_of z) z refl (active_kept r read x on) at walk
    ((nodes_cause r.service (flow_read r) (heard_read r) (read_of r read) x on).counted z causes)
leads_chain r ks label g read node_graph n p u x zs z on at walk (cycle.onward a y ys b causes more) =
    let counts = (nodes_cause r.service (flow_read r) (heard_read r) (read_of r read) x on).counted y causes in
    let first = counts_chain r ks label g read node_graph n p u (node_of x) (node_of y) y refl (active_kept r read x on) at walk counts in
    let rest = leads_chain r ks label g read node_graph n first.path first.index y ys z (caused_on r read x y on causes) first.place (along first.path first.index first.chain) more in
    record {
      path = rest.path;
      index = rest.index;
      chain = rest.chain;
      place = rest.place;
      along =
          rest.along ∙ ap (λ (ls : List ℕ). ls ++ labels_at r label (ys ++ z ∷ [])) first.along
          ∙ append_snoc (labels_along p) (label (effect_number r y)) (labels_at r label (ys ++ z ∷ []));
    }

-- each effect on a way from one that is in the graph is in the graph too
pub leads_listed : (r : Reading) (ks : List NumberedNode) (label : NumberedNode → ℕ) (g : Graph) → IsReading r → IsNodeGraph r ks label g → (n : ℕ) (x : costs.Effect) (zs : List costs.Effect) (z : costs.Effect) → IsOn r.service (flow_read r) x → slice_get ks n ≡ Some (effect_number r x) → Leads r.service (flow_read r) x zs z
    → Each (λ y. Among ks (effect_number r y)) (zs ++ z ∷ [])
leads_listed r ks label g read node_graph n x zs z on at (cycle.once a b causes) =
    let way = leads_chain r ks label g read node_graph n [] n x [] z on at nothing (cycle.once x z causes) in
    (got_among ks way.index (effect_number r z) way.place, tt)
leads_listed r ks label g read node_graph n x zs z on at (cycle.onward a y ys b causes more) =
    let way = leads_chain r ks label g read node_graph n [] n x [] y on at nothing (cycle.once x y causes) in
    (got_among ks way.index (effect_number r y) way.place, leads_listed r ks label g read node_graph way.index y ys z (caused_on r read x y on causes) way.place more)

-- From chains to ways of effects

-- the chain is at an effect now
record IsAt (r : Reading) (x : costs.Effect) (es : List costs.Effect) (k : CostNode) : Type 0 where
  pub front : List costs.Effect
  pub last : costs.Effect
  pub leads : LeadsIn r x front last
  pub on : IsActive r last
  pub effects : es ≡ front ++ last ∷ []
  pub own : k ≡ node_of last

-- or between effects: at a node that the last one counts
record IsBetween (r : Reading) (x : costs.Effect) (es : List costs.Effect) (k : CostNode) : Type 0 where
  pub last : costs.Effect
  pub led : Led r.service (flow_read r) x es last
  pub on : IsActive r last
  pub quiet : is_effect k ≡ false
  pub counts : CountsIn r (node_of last) k

-- what a chain from an effect tells: the effects behind it, and where the chain is
record Seen (r : Reading) (ks : List NumberedNode) (label : NumberedNode → ℕ) (x : costs.Effect) (p : List Arrow) (u : ℕ) : Type 0 where
  pub at : CostNode
  pub behind : List costs.Effect
  pub place : slice_get ks u ≡ Some (number r at)
  pub keeps : Kept r at
  pub labels : labels_along p ≡ labels_at r label behind
  pub names : effects_along ks p ≡ map (effect_number r) behind
  pub stands : IsAt r x behind at ⊎ IsBetween r x behind at

-- what is known of the chain before an arrow
record Going (r : Reading) (ks : List NumberedNode) (label : NumberedNode → ℕ) (x : costs.Effect) (p : List Arrow) : Type 0 where
  pub behind : List costs.Effect
  pub last : costs.Effect
  pub led : Led r.service (flow_read r) x behind last
  pub on : IsActive r last
  pub labels : labels_along p ≡ labels_at r label behind
  pub names : effects_along ks p ≡ map (effect_number r) behind

seen_other : (r : Reading) (ks : List NumberedNode) (label : NumberedNode → ℕ) → IsReading r → (x : costs.Effect) (p : List Arrow) (s : Going r ks label x p) (a : Arrow) (j : CostNode) → is_effect j ≡ false → IsMet r.service (flow_read r) (heard_read r) j → CountsIn r (node_of s.last) j → leads_to r ks a j → a.label ≡ label_to label (number r j)
    → Seen r ks label x (p ++ a ∷ []) a.to
seen_other r ks label read x p s a j quiet met counts place is = record {
  at = j;
  behind = s.behind;
  place = place;
  keeps = met_kept r.service (flow_read r) (heard_read r) (read_of r read) j met;
  labels = silent_more p a (is ∙ other_label r label j quiet) ∙ s.labels;
  names =
      effects_more ks p a ∙ ap (λ (ns : List NumberedNode). effects_along ks p ++ ns) (effect_at_end r ks a j place ∙ no_effect r j quiet)
      ∙ append-nil (effects_along ks p) ∙ s.names;
  stands = inr (record { last = s.last; led = s.led; on = s.on; quiet = quiet; counts = counts });
}

seen_effect : (r : Reading) (ks : List NumberedNode) (label : NumberedNode → ℕ) → IsReading r → (x : costs.Effect) (p : List Arrow) (s : Going r ks label x p) (a : Arrow) (z : costs.Effect) → IsMet r.service (flow_read r) (heard_read r) (node_of z) → CountsIn r (node_of s.last) (node_of z) → leads_to r ks a (node_of z) → a.label ≡ Some (label (effect_number r z))
    → Seen r ks label x (p ++ a ∷ []) a.to
seen_effect r ks label read x p s a z met counts place is = record {
  at = node_of z;
  behind = s.behind ++ z ∷ [];
  place = place;
  keeps = met_kept r.service (flow_read r) (heard_read r) (read_of r read) (node_of z) met;
  labels =
      labels_more p a (Some (label (effect_number r z))) is ∙ ap (λ (ls : List ℕ). ls ++ label (effect_number r z) ∷ []) s.labels
      ∙ sym (map-append (λ y. label (effect_number r y)) s.behind (z ∷ []));
  names =
      effects_more ks p a ∙ ap (λ (ns : List NumberedNode). effects_along ks p ++ ns) (effect_at_end r ks a (node_of z) place)
      ∙ ap (λ (ns : List NumberedNode). ns ++ effect_number r z ∷ []) s.names
      ∙ sym (map-append (effect_number r) s.behind (z ∷ []));
  stands =
      inl (record {
        front = s.behind;
        last = z;
        leads = led_more r.service (flow_read r) x s.behind s.last z s.led ((nodes_cause r.service (flow_read r) (heard_read r) (read_of r read) s.last s.on).causes z counts);
        on = met.0;
        effects = refl;
        own = refl;
      });
}

seen_node : (r : Reading) (ks : List NumberedNode) (label : NumberedNode → ℕ) → IsReading r → (x : costs.Effect) (p : List Arrow) (s : Going r ks label x p) (a : Arrow) (j : CostNode) → IsMet r.service (flow_read r) (heard_read r) j → CountsIn r (node_of s.last) j → leads_to r ks a j → a.label ≡ label_to label (number r j)
    → Seen r ks label x (p ++ a ∷ []) a.to
seen_node r ks label read x p s a (Effect c o n) met counts place is =
    seen_effect r ks label read x p s a (record { config = c; object = o; number = n }) met counts place is
seen_node r ks label read x p s a j met counts place is = seen_other r ks label read x p s a j refl met counts place is

-- one more arrow, from a node all of whose nodes the last effect counts
seen_more : (r : Reading) (ks : List NumberedNode) (label : NumberedNode → ℕ) (g : Graph) → IsReading r → IsNodeGraph r ks label g → (x : costs.Effect) (p : List Arrow) (s : Going r ks label x p) (u : ℕ) (k : CostNode) → Kept r k → slice_get ks u ≡ Some (number r k) → ((j : CostNode) → Counted r k j → CountsIn r (node_of s.last) j) → (a : Arrow) → Contains (arrows_of g u) a
    → Seen r ks label x (p ++ a ∷ []) a.to
seen_more r ks label g read node_graph x p s u k kept at counts a there =
    let arrow = node_graph.arrows u (number r k) at a there in
    let next = number_counts r read k kept arrow.to arrow.counts in
    seen_node r ks label read x p s a next.0 (counted_met r.service (flow_read r) (heard_read r) (read_of r read) k next.0 kept next.1) (counts next.0 next.1)
    (arrow.place ∙ ap (λ (n : NumberedNode). Some n) (sym next.2)) (arrow.label ∙ ap (label_to label) (sym next.2))

seen_next : (r : Reading) (ks : List NumberedNode) (label : NumberedNode → ℕ) (g : Graph) → IsReading r → IsNodeGraph r ks label g → (x : costs.Effect) (p : List Arrow) (u : ℕ) → Seen r ks label x p u → (a : Arrow) → Contains (arrows_of g u) a → Seen r ks label x (p ++ a ∷ []) a.to
seen_next r ks label g read node_graph x p u s a there = by s.stands
  where
    by : IsAt r x s.behind s.at ⊎ IsBetween r x s.behind s.at → Seen r ks label x (p ++ a ∷ []) a.to
    by (inl here) =
        seen_more r ks label g read node_graph x p
        (record { behind = s.behind; last = here.last; led = subst (λ (es : List costs.Effect). Led r.service (flow_read r) x es here.last) (sym here.effects) (somewhere here.front here.last here.leads); on = here.on; labels = s.labels; names = s.names })
        u s.at s.keeps s.place (λ j counts. causing.once (node_of here.last) j (subst (λ (k : CostNode). Counted r k j) here.own counts)) a there
    by (inr here) =
        seen_more r ks label g read node_graph x p
        (record { behind = s.behind; last = here.last; led = here.led; on = here.on; labels = s.labels; names = s.names })
        u s.at s.keeps s.place (λ j counts. counts_more r.service (flow_read r) (heard_read r) (node_of here.last) s.at j here.counts here.quiet counts) a there

seen_chain : (r : Reading) (ks : List NumberedNode) (label : NumberedNode → ℕ) (g : Graph) → IsReading r → IsNodeGraph r ks label g → (x : costs.Effect) → IsActive r x → (n : ℕ) → slice_get ks n ≡ Some (effect_number r x) → (p : List Arrow) (u : ℕ) → Chain g (arrows_of g n) p u → Seen r ks label x p u
seen_chain r ks label g read node_graph x on n at p u (chains.begin a there) =
    seen_more r ks label g read node_graph x [] (record { behind = []; last = x; led = nowhere; on = on; labels = refl; names = refl })
    n (node_of x) (active_kept r read x on) at (λ j counts. causing.once (node_of x) j counts) a there
seen_chain r ks label g read node_graph x on n at p u (chains.onward c m a chain there) =
    seen_next r ks label g read node_graph x c m (seen_chain r ks label g read node_graph x on n at c m chain) a there

abbrev Tells : (r : Reading) → List NumberedNode → (NumberedNode → ℕ) → costs.Effect → List Arrow → Type 0
Tells r ks label x p =
    (zs : List costs.Effect) × LeadsIn r x zs x × (map (effect_number r) (zs ++ x ∷ []) ≡ effects_along ks p)
    × (labels_along p ≡ labels_at r label (zs ++ x ∷ []))

-- a chain that is at the effect again
seen_whole : (r : Reading) (ks : List NumberedNode) (label : NumberedNode → ℕ) → IsReading r → (x : costs.Effect) → IsActive r x → (p : List Arrow) (n : ℕ) → slice_get ks n ≡ Some (effect_number r x) → Seen r ks label x p n → Tells r ks label x p
seen_whole r ks label read x on p n at s = by s.stands
  where
    same : s.at ≡ node_of x
    same = number_tells r read s.at (node_of x) s.keeps (active_kept r read x on) (some_same (sym s.place ∙ at))

    by : IsAt r x s.behind s.at ⊎ IsBetween r x s.behind s.at → Tells r ks label x p
    by (inl here) =
        let last : here.last ≡ x = node_tells here.last x (sym here.own ∙ same) in
        let whole : s.behind ≡ here.front ++ x ∷ [] = here.effects ∙ ap (λ (z : costs.Effect). here.front ++ z ∷ []) last in (
          here.front,
          subst (λ (z : costs.Effect). LeadsIn r x here.front z) last here.leads,
          sym (s.names ∙ ap (map (effect_number r)) whole),
          s.labels ∙ ap (labels_at r label) whole,
        )
    by (inr here) = absurd (true≢false (sym (ap is_effect same) ∙ here.quiet))

pub node_graphs_tell : NodeGraphsTell
node_graphs_tell r ks label g read node_graph x on n at = record {
  there = λ zs leads.
      let way = leads_chain r ks label g read node_graph n [] n x zs x on at nothing leads in
      (way.path, subst (λ (m : ℕ). Chain g (arrows_of g n) way.path m) (node_graph.once way.index n (effect_number r x) way.place at) way.chain, way.along);
  told = λ p chain. seen_whole r ks label read x on p n at (seen_chain r ks label g read node_graph x on n at p n chain);
}

-- WHAT IS LAID IS ON NO CYCLE. Ranks fall from effect to effect.
pub no_laid_cycle : (r : Reading) → IsReading r → (ts : Places) → AreLayers (price r) (kept r) ts → (x : costs.Effect) → IsOn r.service (flow_read r) x → is_laid ts (effect_number r x) ≡ true → (zs : List costs.Effect) → Leads r.service (flow_read r) x zs x → ⊥
no_laid_cycle r read ts layers x on laid zs leads =
    let named = (serves r read).named ts layers in
    never (rank_by ts (number r) (node_of x))
    (leads_fall r.service (flow_read r) (heard_read r) (read_of r read) (has_by ts (number r)) (rank_by ts (number r)) named.falls x zs x on (laid, active_kept r read x on) leads)
  where
    never : (n : ℕ) → n < n → ⊥
    never n h = omega (arith, h)
