-- The nodes that are laid first: of the start, of all inputs and of all active effects; and the bounds that come of them.
use Rattle.std.specs.Prelude.{◌≡◌, ℕ, true, List, [], ◌∷◌, ◌++◌, min, max, refl}
use Rattle.std.specs.List.{flat_map, list_all}
use Rattle.std.proofs.Common.{arith, inl, inr, ap, ◌∙◌, subst}
use Rattle.mh_model.specs.declared.config.Config.{Config}
use Rattle.mh_model.specs.Configuration.{starting}
use Rattle.mh_model.specs.Service.{Service}
use Rattle.mh_laws.specs.Budget.{six_costs}
use Rattle.mh_laws.specs.Costs as costs
use Rattle.mh_laws.specs.Each.{Among, Each}
use Rattle.mh_laws.specs.Flow.{reached}
use Rattle.mh_laws.specs.Layers.{IsCost}
use Rattle.mh_laws.specs.Price.{Price, most_price, worth}
use Rattle.mh_laws.proofs.EachLemmas.{among_all, among_each, among_joined, among_left, among_mapped, among_right, each_joined, from_joined, from_mapped}
use Rattle.mh_flow.specs.Solved.{Solved}
use Rattle.mh_layers.specs.declared.bounds.InputKind.{InputKind}
use Rattle.mh_layers.specs.declared.bounds.InputKind.TheVariants as kind
use Rattle.mh_layers.specs.declared.numbered_node.NumberedNode.{NumberedNode}
use Rattle.mh_layers.specs.declared.numbered_node.NumberedNode.TheVariants as node
use Rattle.mh_layers.specs.CostNode.{Taken}
use Rattle.mh_layers.specs.Bounding.{capped}
use Rattle.mh_layers.specs.CostNodes.{takes}
use Rattle.mh_layers.specs.Known.{top}
use Rattle.mh_layers.specs.Layered.{AreLayersOf, Layered, active_nodes, input_nodes, kinds, root_nodes}
use Rattle.mh_layers.specs.Layering.{AreLayers, Places, is_laid}
use Rattle.mh_layers.specs.Reading.{IsReading, Reading, config_number, flow_read, kept, number, price}
use Rattle.mh_layers.specs.Taking.{bound_laid, bounds_laid, largest_from, or_nothing, taken_laid}
use Rattle.mh_layers.proofs.BoundLemmas.{taken_exact, taken_kept}
use Rattle.mh_layers.proofs.LayeredLemmas.{costs_of, layering_of, listed_kept}
use Rattle.mh_layers.proofs.MetLemmas.{reached_among}

-- the starting configuration is reached
pub start_reached : (r : Reading) → IsReading r → reached (flow_read r) (starting r.service) ≡ true
start_reached r read = read.flow.least.solution.start

-- What is among the roots

pub starts_rooted : (r : Reading) → Among (root_nodes r) (number r (Taken (starting r.service) kind.Start))
starts_rooted r = inl refl

pub input_rooted : (r : Reading) (c : Config) (k : InputKind) → Among (flow_read r).configs c → Among kinds k → Among (root_nodes r) (number r (Taken c k))
input_rooted r c k there one =
    inr (among_left (flat_map (input_nodes r) (flow_read r).configs) (active_nodes r) (number r (Taken c k))
    (among_joined (input_nodes r) (flow_read r).configs c (number r (Taken c k)) there
    (among_mapped (λ (j : InputKind). number r (Taken c j)) kinds k one)))

pub active_rooted : (r : Reading) (k : NumberedNode) → Among (active_nodes r) k → Among (root_nodes r) k
active_rooted r k there = inr (among_right (flat_map (input_nodes r) (flow_read r).configs) (active_nodes r) k there)

-- all of them are kept
pub roots_kept : (r : Reading) → IsReading r → Each (kept r) (root_nodes r)
roots_kept r read = (
  taken_kept r read (starting r.service) (start_reached r read) kind.Start,
  each_joined (kept r) (flat_map (input_nodes r) (flow_read r).configs) (active_nodes r)
      (among_each (kept r) (flat_map (input_nodes r) (flow_read r).configs) inputs_kept) (listed_kept r read),
)
  where
    inputs_kept : (n : NumberedNode) → Among (flat_map (input_nodes r) (flow_read r).configs) n → kept r n
    inputs_kept n there =
        let at = from_joined (input_nodes r) (flow_read r).configs n there in
        let one = from_mapped (λ (k : InputKind). number r (Taken at.0 k)) kinds n at.2 in
        subst (kept r) one.2 (taken_kept r read at.0 (reached_among (flow_read r).configs at.0 at.1) one.0)

-- Bounds

cut_most : (a b : ℕ) → max (min a top) (min b top) ≡ min (max a b) top
cut_most a b = omega arith

nothing_more : (n : ℕ) → min n top ≡ min (max n 0) top
nothing_more n = omega arith

most_behind : (n a b : ℕ) → min (max (max n a) b) top ≡ min (max n (max a b)) top
most_behind n a b = omega arith

-- the largest of what is cut is the largest, cut
largest_cut : {X : Type 0} (cost : costs.Costing) (f : X → ℕ) (h : X → Price costs.Effect) (n : ℕ) (xs : List X) → ((x : X) → Among xs x → f x ≡ min (worth cost (h x)) top)
    → largest_from f (min n top) xs ≡ min (max n (worth cost (most_price h xs))) top
largest_cut cost f h n [] each = nothing_more n
largest_cut cost f h n (x ∷ xs) each =
    ap (λ (m : ℕ). largest_from f (max (min n top) m) xs) (each x (inl refl))
    ∙ ap (λ (m : ℕ). largest_from f m xs) (cut_most n (worth cost (h x)))
    ∙ largest_cut cost f h (max n (worth cost (h x))) xs (λ y there. each y (inr there))
    ∙ most_behind n (worth cost (h x)) (worth cost (most_price h xs))

from_nothing : (m : ℕ) → min (max 0 m) top ≡ min m top
from_nothing m = omega arith

-- what is laid of an input is what it costs, cut
pub taken_cut : (r : Reading) → IsReading r → (ts : Places) → AreLayers (price r) (kept r) ts → (cost : costs.Costing) → IsCost r.service (flow_read r) cost → (c : Config) → reached (flow_read r) c ≡ true → (k : InputKind)
    → is_laid ts (number r (Taken c k)) ≡ true → taken_laid r ts k c ≡ min (worth cost (takes r.service (flow_read r) c k)) top
unfolding taken_laid
taken_cut r read ts layers cost is c met k laid = ap or_nothing (taken_exact r read ts layers cost is c met k laid)

pub bounds_exact : (r : Reading) → IsReading r → (ts : Places) → AreLayers (price r) (kept r) ts → list_all (is_laid ts) (root_nodes r) ≡ true
    → (cost : costs.Costing) → IsCost r.service (flow_read r) cost → bounds_laid r ts ≡ capped (six_costs r.service (flow_read r) cost)
bounds_exact r read ts layers all cost is = λ i. record {
  start = started i;
  key = bound kind.Key (inl refl) i;
  tick = bound kind.Tick (inr (inl refl)) i;
  stream = bound kind.Stream (inr (inr (inl refl))) i;
  engine = bound kind.Engine (inr (inr (inr (inl refl)))) i;
  arrive = bound kind.Arrive (inr (inr (inr (inr (inl refl))))) i;
}
  where
    started : taken_laid r ts kind.Start (starting r.service) ≡ min (worth cost (takes r.service (flow_read r) (starting r.service) kind.Start)) top
    started =
        taken_cut r read ts layers cost is (starting r.service) (start_reached r read) kind.Start
        (among_all (is_laid ts) (root_nodes r) (number r (Taken (starting r.service) kind.Start)) all (starts_rooted r))

    each : (k : InputKind) → Among kinds k → (c : Config) → Among (flow_read r).configs c → taken_laid r ts k c ≡ min (worth cost (takes r.service (flow_read r) c k)) top
    each k one c there =
        taken_cut r read ts layers cost is c (reached_among (flow_read r).configs c there) k
        (among_all (is_laid ts) (root_nodes r) (number r (Taken c k)) all (input_rooted r c k there one))

    bound : (k : InputKind) → Among kinds k → bound_laid r ts k ≡ min (worth cost (most_price (λ (c : Config). takes r.service (flow_read r) c k) (flow_read r).configs)) top
    bound k one =
        largest_cut cost (taken_laid r ts k) (λ (c : Config). takes r.service (flow_read r) c k) 0 (flow_read r).configs (each k one)
        ∙ from_nothing (worth cost (most_price (λ (c : Config). takes r.service (flow_read r) c k) (flow_read r).configs))

-- what is laid are the layers
layers_of : (l : Layered) → IsReading l.reading → AreLayers (price l.reading) (kept l.reading) l.places → list_all (is_laid l.places) (root_nodes l.reading) ≡ true → l.bounds ≡ bounds_laid l.reading l.places → AreLayersOf l.reading.service l.reading.flow l
layers_of l read layers all bounds = record {
  layering = layering_of l.reading read l.places layers laid;
  exact = costs_of l.reading read l.places layers laid;
  bounds = λ cost is. bounds ∙ bounds_exact l.reading read l.places layers all cost is;
}
  where
    laid : (k : NumberedNode) → Among (active_nodes l.reading) k → is_laid l.places k ≡ true
    laid k there = among_all (is_laid l.places) (root_nodes l.reading) k all (active_rooted l.reading k there)

-- the same of a service and a flow that were read
pub layers_read : (l : Layered) (v : Service) (f : Solved) → l.reading.service ≡ v → l.reading.flow ≡ f → IsReading l.reading → AreLayers (price l.reading) (kept l.reading) l.places → list_all (is_laid l.places) (root_nodes l.reading) ≡ true
    → l.bounds ≡ bounds_laid l.reading l.places → AreLayersOf v f l
layers_read l v f service flow read layers all bounds =
    subst (λ (g : Solved). AreLayersOf v g l) flow (subst (λ (s : Service). AreLayersOf s l.reading.flow l) service (layers_of l read layers all bounds))

-- Loops

five : {X : Type 0} (old : List X) (a b c d e : X) → ((((old ++ a ∷ []) ++ b ∷ []) ++ c ∷ []) ++ d ∷ []) ++ e ∷ [] ≡ old ++ a ∷ b ∷ c ∷ d ∷ e ∷ []
five [] a b c d e = refl
five {X} (x ∷ xs) a b c d e = ap (λ (t : List X). x ∷ t) (five xs a b c d e)

pub five_pushed : {X : Type 0} (old p q r s t : List X) (a b c d e : X) → p ≡ old ++ a ∷ [] → q ≡ p ++ b ∷ [] → r ≡ q ++ c ∷ [] → s ≡ r ++ d ∷ [] → t ≡ s ++ e ∷ [] → t ≡ old ++ a ∷ b ∷ c ∷ d ∷ e ∷ []
five_pushed {X} old p q r s t a b c d e one two three four last =
    last
    ∙ ap (λ (xs : List X). xs ++ e ∷ []) four
    ∙ ap (λ (xs : List X). (xs ++ d ∷ []) ++ e ∷ []) three
    ∙ ap (λ (xs : List X). ((xs ++ c ∷ []) ++ d ∷ []) ++ e ∷ []) two
    ∙ ap (λ (xs : List X). (((xs ++ b ∷ []) ++ c ∷ []) ++ d ∷ []) ++ e ∷ []) one
    ∙ five old a b c d e

-- the start, then the inputs, then the effects
pub rooted : (r : Reading) (n : ℕ) (one two three : List NumberedNode) → n ≡ config_number r (starting r.service) → one ≡ node.Taken n kind.Start ∷ []
    → two ≡ one ++ flat_map (input_nodes r) (flow_read r).configs → three ≡ two ++ active_nodes r → three ≡ root_nodes r
rooted r n one two three at first second third =
    third ∙ ap (λ (ks : List NumberedNode). ks ++ active_nodes r) second
    ∙ ap (λ (ks : List NumberedNode). (ks ++ flat_map (input_nodes r) (flow_read r).configs) ++ active_nodes r) first
    ∙ ap (λ (m : ℕ). node.Taken m kind.Start ∷ flat_map (input_nodes r) (flow_read r).configs ++ active_nodes r) at
