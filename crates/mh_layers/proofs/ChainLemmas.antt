-- Ways from effect to effect, and chains of arrows: each goes on by one more.
use Rattle.std.specs.Prelude.{◌≡◌, ◌<◌, ℕ, Bool, false, List, [], ◌∷◌, ◌++◌, Option, None}
use Rattle.std.specs.List.{Contains}
use Rattle.std.specs.Option.{option_to_list}
use Rattle.std.proofs.Common.{arith, ap, ◌∙◌, append-nil}
use Rattle.std.proofs.lemmas.List.Concat.{flat_map-append}
use Rattle.mh_model.specs.Service.{Service}
use Rattle.mh_paths.specs.declared.graph.Arrow.{Arrow}
use Rattle.mh_paths.specs.declared.graph.Graph.{Graph}
use Rattle.mh_paths.specs.Chains as chains
use Rattle.mh_paths.specs.Chains.{Chain, arrows_of, labels_along, labels_of}
use Rattle.mh_laws.specs.Costs as costs
use Rattle.mh_laws.specs.Each.{Among}
use Rattle.mh_laws.specs.Flow.{Flow}
use Rattle.mh_laws.specs.Layers.{Causes, IsOn}
use Rattle.mh_laws.specs.Price.{counted_in, Nodes}
use Rattle.mh_laws.proofs.PriceLemmas.{of_nodes}
use Rattle.mh_layers.specs.declared.numbered_node.NumberedNode.{NumberedNode}
use Rattle.mh_layers.specs.CostNode.{CostNode}
use Rattle.mh_layers.specs.Bridge.{IsHad, IsRead, node_of}
use Rattle.mh_layers.specs.Causing as causing
use Rattle.mh_layers.specs.Causing.{Counts, is_effect}
use Rattle.mh_layers.specs.Cycle as cycle
use Rattle.mh_layers.specs.Cycle.{Leads}
use Rattle.mh_layers.specs.CostNodes.{Heard, IsKept, IsMet, price_of}
use Rattle.mh_layers.specs.NodeGraph.{effect_to, effects_along}
use Rattle.mh_layers.proofs.CausingLemmas.{counted_kept, counted_met, nodes_cause}

-- What nodes count

-- one more node behind
pub counts_more : (v : Service) (w : Flow) (h : Heard) (k i j : CostNode) → Counts v w h k i → is_effect i ≡ false → Among (counted_in (price_of v w h i)) j → Counts v w h k j
counts_more v w h k i j (causing.once a b there) quiet next = causing.onward k i j there quiet (causing.once i j next)
counts_more v w h k i j (causing.onward a m b there silent more) quiet next =
    causing.onward k m j there silent (counts_more v w h m i j more quiet next)

-- what is counted is met
pub counts_met : (v : Service) (w : Flow) (h : Heard) → IsRead v w h → (k j : CostNode) → IsKept v w h k → Counts v w h k j → IsMet v w h j
counts_met v w h read k j kept (causing.once a b there) = counted_met v w h read k j kept there
counts_met v w h read k j kept (causing.onward a i b there silent more) =
    counts_met v w h read i j (counted_kept v w h read k i kept there) more

-- Ways from effect to effect

pub leads_more : (v : Service) (w : Flow) (x : costs.Effect) (zs : List costs.Effect) (y z : costs.Effect) → Leads v w x zs y → Causes v w y z → Leads v w x (zs ++ y ∷ []) z
leads_more v w x zs y z (cycle.once a b first) next = cycle.onward x y [] z first (cycle.once y z next)
leads_more v w x zs y z (cycle.onward a m ms b first more) next =
    cycle.onward x m (ms ++ y ∷ []) z first (leads_more v w m ms y z more next)

-- these are the effects behind the first, and this is the last of all; none, and it is the first
pub data Led (v : Service) (w : Flow) (x : costs.Effect) : List costs.Effect → costs.Effect → Type 0 where
  nowhere : Led v w x [] x
  somewhere : (zs : List costs.Effect) (y : costs.Effect) → Leads v w x zs y → Led v w x (zs ++ y ∷ []) y

pub led_more : (v : Service) (w : Flow) (x : costs.Effect) (es : List costs.Effect) (y z : costs.Effect) → Led v w x es y → Causes v w y z → Leads v w x es z
led_more v w x es y z nowhere next = cycle.once x z next
led_more v w x es y z (somewhere zs a leads) next = leads_more v w x zs y z leads next

-- Chains

-- nothing yet, and this is the node; or a chain to this node
pub data Walk (g : Graph) (n : ℕ) : List Arrow → ℕ → Type 0 where
  nothing : Walk g n [] n
  along : (p : List Arrow) (u : ℕ) → Chain g (arrows_of g n) p u → Walk g n p u

pub chain_more : (g : Graph) (n : ℕ) (p : List Arrow) (u : ℕ) (a : Arrow) → Walk g n p u → Contains (arrows_of g u) a → Chain g (arrows_of g n) (p ++ a ∷ []) a.to
chain_more g n p u a nothing there = chains.begin a there
chain_more g n p u a (along q m chain) there = chains.onward p u a chain there

-- labels along one more arrow

pub labels_more : (p : List Arrow) (a : Arrow) (l : Option ℕ) → a.label ≡ l → labels_along (p ++ a ∷ []) ≡ labels_along p ++ option_to_list l
labels_more p a l is =
    flat_map-append labels_of p (a ∷ [])
    ∙ ap (λ (o : Option ℕ). labels_along p ++ (option_to_list o ++ [])) is
    ∙ ap (λ (ns : List ℕ). labels_along p ++ ns) (append-nil (option_to_list l))

pub silent_more : (p : List Arrow) (a : Arrow) → a.label ≡ None → labels_along (p ++ a ∷ []) ≡ labels_along p
silent_more p a is = labels_more p a None is ∙ append-nil (labels_along p)

pub effects_more : (ks : List NumberedNode) (p : List Arrow) (a : Arrow) → effects_along ks (p ++ a ∷ []) ≡ effects_along ks p ++ effect_to ks a
effects_more ks p a =
    flat_map-append (effect_to ks) p (a ∷ []) ∙ ap (λ (es : List NumberedNode). effects_along ks p ++ es) (append-nil (effect_to ks a))

-- RANKS. Where they fall along prices, they fall along what is counted and along ways.

pub counts_fall : (v : Service) (w : Flow) (h : Heard) (has : CostNode → Bool) (rank : CostNode → ℕ) → ((k : CostNode) → IsHad v w h has k → Nodes (λ j. IsHad v w h has j × (rank j < rank k)) (price_of v w h k))
    → (k j : CostNode) → IsHad v w h has k → Counts v w h k j → IsHad v w h has j × (rank j < rank k)
counts_fall v w h has rank falls k j had (causing.once a b there) =
    of_nodes (λ (i : CostNode). IsHad v w h has i × (rank i < rank k)) (price_of v w h k) (falls k had) j there
counts_fall v w h has rank falls k j had (causing.onward a i b there silent more) =
    let next = of_nodes (λ (m : CostNode). IsHad v w h has m × (rank m < rank k)) (price_of v w h k) (falls k had) i there in
    let last = counts_fall v w h has rank falls i j next.0 more in
    (last.0, lower (rank j) (rank i) (rank k) last.1 next.1)
  where
    lower : (l m n : ℕ) → l < m → m < n → l < n
    lower l m n s t = omega (arith, s, t)

pub leads_fall : (v : Service) (w : Flow) (h : Heard) → IsRead v w h → (has : CostNode → Bool) (rank : CostNode → ℕ) → ((k : CostNode) → IsHad v w h has k → Nodes (λ j. IsHad v w h has j × (rank j < rank k)) (price_of v w h k))
    → (x : costs.Effect) (zs : List costs.Effect) (z : costs.Effect) → IsOn v w x → IsHad v w h has (node_of x) → Leads v w x zs z → rank (node_of z) < rank (node_of x)
leads_fall v w h read has rank falls x zs z on had (cycle.once a b causes) =
    (counts_fall v w h has rank falls (node_of x) (node_of z) had ((nodes_cause v w h read x on).counted z causes)).1
leads_fall v w h read has rank falls x zs z on had (cycle.onward a y ys b causes more) =
    let counts = (nodes_cause v w h read x on).counted y causes in
    let next = counts_fall v w h has rank falls (node_of x) (node_of y) had counts in
    let met = counts_met v w h read (node_of x) (node_of y) had.1 counts in
    lower (rank (node_of z)) (rank (node_of y)) (rank (node_of x)) (leads_fall v w h read has rank falls y ys z met.0 next.0 more) next.1
  where
    lower : (l m n : ℕ) → l < m → m < n → l < n
    lower l m n s t = omega (arith, s, t)
