-- The first cycle among nodes is the first cycle of effects.
use Rattle.std.specs.Prelude.{◌≡◌, ◌⊎◌, ◌<◌, ◌≤◌, ◌+◌, ℕ, suc, Bool, true, false, not, cond, List, [], ◌∷◌, ◌++◌, length, map, filter, take, get_or, slice_get, Option, Some, None, refl}
use Rattle.std.specs.declared.cmp.Ordering.{Ordering}
use Rattle.std.specs.declared.cmp.Ordering.TheVariants.{Less, Equal, Greater}
use Rattle.std.specs.Cmp.{IsTotalOrder, then_total, on_total, nat_cmp_total, tied_itself}
use Rattle.std.specs.Cmp.Lexicographic.{slice_cmp}
use Rattle.std.specs.Option.{option_map_or}
use Rattle.std.specs.Ordering.{is_lt, nat_cmp, ordering_then}
use Rattle.std.proofs.Common.{arith, inl, inr, ap, ◌∙◌, sym, subst, length-append, true≢false}
use Rattle.std.proofs.lemmas.List.{length-map, map-append, take_all, take_more}
use Rattle.mh_paths.specs.declared.graph.Arrow.{Arrow}
use Rattle.mh_paths.specs.declared.graph.Graph.{Graph}
use Rattle.mh_paths.specs.Chains.{IsFirstCycle, NoCycle, labels_along}
use Rattle.mh_model.specs.Service.{Service}
use Rattle.mh_flow.specs.Solved.{Solved}
use Rattle.mh_laws.specs.Costs as costs
use Rattle.mh_laws.specs.Each.{Among, Each}
use Rattle.mh_laws.specs.Flow.{Flow}
use Rattle.mh_laws.specs.Layers.{Causes, IsOn}
use Rattle.mh_laws.proofs.EachLemmas.{among_each, among_either, among_filtered, among_left, among_right, each_among}
use Rattle.mh_layers.specs.declared.cause.Cause.{Cause}
use Rattle.mh_layers.specs.declared.cycle.Best.{Best}
use Rattle.mh_layers.specs.declared.numbered_node.NumberedNode.{NumberedNode}
use Rattle.mh_layers.specs.CostNode.{CostNode, Effect}
use Rattle.mh_layers.specs.Bridge.{node_of}
use Rattle.mh_layers.specs.Cycle as cycle
use Rattle.mh_layers.specs.Cycle.{IsCycle, IsFirstCycle as IsFirst, AreFirstCycle, Leads, NoCycles, by_place, by_effect_site, cause_of}
use Rattle.mh_layers.specs.Layered.{active_nodes}
use Rattle.mh_layers.specs.Layering.{AreLayers, Places, is_laid}
use Rattle.mh_layers.specs.Named.{IsEffectKept}
use Rattle.mh_layers.specs.Reading.{IsReading, Reading, flow_read, heard_read, kept, number, price}
use Rattle.mh_layers.specs.Stretches.{is_effect_node}
use Rattle.mh_layers.specs.EffectSites.{cause_named, causes_to, effect_named, label_in, node_index}
use Rattle.mh_layers.specs.Walk.{AreBest, IsBest, IsTried, IsNodeGraphOf, causes_along, unlaid}
use Rattle.mh_layers.specs.NodeGraph.{CyclesAreTold, effect_number, effect_to, effects_along}
use Rattle.mh_flow.proofs.OrderLemmas.{config_total, reference_total}
use Rattle.mh_layers.proofs.CausingLemmas.{effect_kept, nodes_cause}
use Rattle.mh_layers.proofs.ChainLemmas.{counts_met}
use Rattle.mh_layers.proofs.GraphLemmas.{node_found}
use Rattle.mh_layers.proofs.LayeredLemmas.{listed_kept, listed_on, on_listed}
use Rattle.mh_layers.proofs.ReadingLemmas.{numbers_are_names}
use Rattle.mh_layers.proofs.ServeLemmas.{read_of}
use Rattle.mh_layers.proofs.EffectSiteLemmas.{labels_order}
use Rattle.mh_layers.proofs.NodeGraphLemmas.{no_laid_cycle, node_graphs_tell}

-- ORDER

place_total : IsTotalOrder by_place
place_total = then_total (on_total (λ (x : Cause). x.at) reference_total) (on_total (λ (x : Cause). x.index) nat_cmp_total)

cause_total : IsTotalOrder by_effect_site
cause_total = then_total place_total (on_total (λ (x : Cause). x.config) config_total)

less_of : (o : Ordering) → is_lt o ≡ true → o ≡ Less
less_of Less e = refl
less_of Equal e = absurd cc
less_of Greater e = absurd cc

pub before_none : (x : Cause) → is_lt (by_effect_site x x) ≡ true → ⊥
before_none x e = true≢false (sym e ∙ ap is_lt (tied_itself cause_total x))

pub before_on : (x y z : Cause) → is_lt (by_effect_site x y) ≡ true → is_lt (by_effect_site y z) ≡ true → is_lt (by_effect_site x z) ≡ true
before_on x y z e f = ap is_lt (cause_total.trans x y z (less_of (by_effect_site x y) e) (less_of (by_effect_site y z) f))

-- ONE MORE NODE

abbrev comes_first : Cause → Option Best → Bool
comes_first x best = option_map_or (λ (b : Best). is_lt (by_effect_site x b.cause)) best true

pub behind_one : {P : NumberedNode → Type 0} (seen : List NumberedNode) (k : NumberedNode) → ((j : NumberedNode) → Among seen j → P j) → P k → (j : NumberedNode) → Among (seen ++ k ∷ []) j → P j
behind_one {P} seen k all own j there = by (among_either seen (k ∷ []) j there)
  where
    by : Among seen j ⊎ Among (k ∷ []) j → P j
    by (inl h) = all j h
    by (inr (inl same)) = subst P same own
    by (inr (inr never)) = absurd cc

still_best : (r : Reading) (ks : List NumberedNode) (g : Graph) (seen : List NumberedNode) (k : NumberedNode) (b : Best) → IsBest r ks g seen b → (is_lt (by_effect_site (cause_named r k) b.cause) ≡ true → NoCycle g (node_index ks k)) → IsBest r ks g (seen ++ k ∷ []) b
still_best r ks g seen k b best own = record {
  there = among_left seen (k ∷ []) b.node best.there;
  cause = best.cause;
  first = best.first;
  soonest = behind_one seen k best.soonest own;
}

-- it does not come before the best
pub tried_later : (r : Reading) (ks : List NumberedNode) (g : Graph) (k : NumberedNode) (x : Cause) (best : Option Best) → x ≡ cause_named r k → option_map_or (λ (b : Best). is_lt (by_effect_site x b.cause)) best true ≡ false → IsTried r ks g k best best
tried_later r ks g k x None is later = absurd cc
tried_later r ks g k x (Some b) is later = record {
  best = λ seen best. still_best r ks g seen k b best (λ e. absurd (true≢false (sym e ∙ ap (λ (y : Cause). is_lt (by_effect_site y b.cause)) (sym is) ∙ later)));
}

-- it is on no cycle
pub tried_none : (r : Reading) (ks : List NumberedNode) (g : Graph) (k : NumberedNode) (n : ℕ) (best : Option Best) → n ≡ node_index ks k → NoCycle g n → IsTried r ks g k best best
tried_none r ks g k n None is none = record { best = λ seen best. behind_one seen k best (subst (NoCycle g) is none) }
tried_none r ks g k n (Some b) is none = record { best = λ seen best. still_best r ks g seen k b best (λ e. subst (NoCycle g) is none) }

-- it is the best now
pub tried_found : (r : Reading) (ks : List NumberedNode) (g : Graph) (k : NumberedNode) (n : ℕ) (x : Cause) (b : Best) (old new : Option Best) → x ≡ cause_named r k → n ≡ node_index ks k → option_map_or (λ (b : Best). is_lt (by_effect_site x b.cause)) old true ≡ true → b.node ≡ k → b.cause ≡ x → IsFirstCycle g n b.trail.items → new ≡ Some b
    → IsTried r ks g k old new
tried_found r ks g k n x b old new is at first own cause found now = record {
  best = λ seen best. subst (AreBest r ks g (seen ++ k ∷ [])) (sym now) (record {
    there = among_right seen (k ∷ []) b.node (inl (sym own));
    cause = cause ∙ is ∙ ap (cause_named r) (sym own);
    first = subst (λ (m : ℕ). IsFirstCycle g m b.trail.items) (at ∙ ap (node_index ks) (sym own)) found;
    soonest = behind_one seen k (none seen old best first) (λ e. absurd (before_none x (subst (λ (y : Cause). is_lt (by_effect_site y x) ≡ true) (sym is) (subst (λ (y : Cause). is_lt (by_effect_site (cause_named r k) y) ≡ true) cause e))));
  });
}
  where
    none : (seen : List NumberedNode) (o : Option Best) → AreBest r ks g seen o → option_map_or (λ (b : Best). is_lt (by_effect_site x b.cause)) o true ≡ true → (j : NumberedNode) → Among seen j → is_lt (by_effect_site (cause_named r j) b.cause) ≡ true → NoCycle g (node_index ks j)
    none seen None best before j there e = best j there
    none seen (Some a) best before j there e =
        best.soonest j there (before_on (cause_named r j) x a.cause (subst (λ (y : Cause). is_lt (by_effect_site (cause_named r j) y) ≡ true) cause e) before)

pub best_more : (r : Reading) (ks : List NumberedNode) (g : Graph) (xs : List NumberedNode) (i : ℕ) (d : NumberedNode) (old new : Option Best) → i < length xs → AreBest r ks g (take i xs) old → IsTried r ks g (get_or xs i d) old new → AreBest r ks g (take (i + 1) xs) new
best_more r ks g xs i d old new less so_far tried =
    subst (λ (zs : List NumberedNode). AreBest r ks g zs new) (sym (take_more xs i d less)) (tried.best (take i xs) so_far)

pub best_all : (r : Reading) (ks : List NumberedNode) (g : Graph) (xs : List NumberedNode) (i : ℕ) (best : Option Best) → length xs ≤ i → AreBest r ks g (take i xs) best → AreBest r ks g xs best
best_all r ks g xs i best far so_far = subst (λ (zs : List NumberedNode). AreBest r ks g zs best) (take_all i xs far) so_far

pub none_tried : (r : Reading) (ks : List NumberedNode) (g : Graph) → AreBest r ks g [] None
none_tried r ks g k there = absurd cc

-- LISTS OF CAUSES

less_in_front : {X : Type 0} (R : X → X → Ordering) (xs ys zs us : List X) → length xs ≡ length ys → slice_cmp R xs ys ≡ Less → slice_cmp R (xs ++ zs) (ys ++ us) ≡ Less
less_in_front R [] [] zs us long e = absurd cc
less_in_front R [] (y ∷ ys) zs us long e = absurd (omega (arith, long))
less_in_front R (x ∷ xs) [] zs us long e = absurd cc
less_in_front {X} R (x ∷ xs) (y ∷ ys) zs us long e = by (R x y) e (less_in_front R xs ys zs us (omega (arith, long)))
  where
    by : (o : Ordering) → ordering_then o (slice_cmp R xs ys) ≡ Less → (slice_cmp R xs ys ≡ Less → slice_cmp R (xs ++ zs) (ys ++ us) ≡ Less) → ordering_then o (slice_cmp R (xs ++ zs) (ys ++ us)) ≡ Less
    by Less h behind = refl
    by Equal h behind = behind h
    by Greater h behind = absurd cc

-- lists of labels compare as lists of causes
labels_compare : {X : Type 0} (label : X → ℕ) (cause : X → Cause) (P : X → Type 0) → ((x y : X) → P x → P y → nat_cmp (label x) (label y) ≡ by_place (cause x) (cause y)) → (xs ys : List X) → Each P xs → Each P ys → slice_cmp nat_cmp (map label xs) (map label ys) ≡ slice_cmp by_place (map cause xs) (map cause ys)
labels_compare label cause P order [] [] h k = refl
labels_compare label cause P order [] (y ∷ ys) h k = refl
labels_compare label cause P order (x ∷ xs) [] h k = refl
labels_compare label cause P order (x ∷ xs) (y ∷ ys) h k =
    λ i. ordering_then (order x y h.0 k.0 i) (labels_compare label cause P order xs ys h.1 k.1 i)

-- EFFECTS AND THEIR NUMBERS

-- it puts another effect to work
abbrev Puts : Service → Flow → costs.Effect → Type 0
Puts v w x = (y : costs.Effect) × Causes v w x y

puts_first : {v : Service} {w : Flow} (x : costs.Effect) (zs : List costs.Effect) (z : costs.Effect) → Leads v w x zs z → Puts v w x
puts_first x zs z (cycle.once a b causes) = (z, causes)
puts_first x zs z (cycle.onward a y ys b causes more) = (y, causes)

module _ (r : Reading) (read : IsReading r) where
  pub named_back : (x : costs.Effect) → IsOn r.service (flow_read r) x → effect_named r (effect_number r x) ≡ x
  named_back x on =
      ap of_node ((numbers_are_names r read).back (node_of x) (effect_kept r.service (flow_read r) (heard_read r) (read_of r read) x on))
    where
      of_node : CostNode → costs.Effect
      of_node (Effect c o n) = record { config = c; object = o; number = n }
      of_node k = x

  cause_back : (x : costs.Effect) → IsOn r.service (flow_read r) x → cause_named r (effect_number r x) ≡ cause_of r.service x
  cause_back x on = ap (cause_of r.service) (named_back x on)

  caused_on : (x y : costs.Effect) → IsOn r.service (flow_read r) x → Causes r.service (flow_read r) x y → IsOn r.service (flow_read r) y
  caused_on x y on causes =
      (counts_met r.service (flow_read r) (heard_read r) (read_of r read) (node_of x) (node_of y) (effect_kept r.service (flow_read r) (heard_read r) (read_of r read) x on)
      ((nodes_cause r.service (flow_read r) (heard_read r) (read_of r read) x on).counted y causes)).0

  -- all on the way are active
  all_on : (x : costs.Effect) (zs : List costs.Effect) (z : costs.Effect) → IsOn r.service (flow_read r) x → Leads r.service (flow_read r) x zs z → Each (IsOn r.service (flow_read r)) (zs ++ z ∷ [])
  all_on x zs z on (cycle.once a b causes) = (caused_on x z on causes, tt)
  all_on x zs z on (cycle.onward a y ys b causes more) =
      let here = caused_on x y on causes in (here, all_on y ys z here more)

  -- and each of them puts another to work, if the last does
  all_put : (x : costs.Effect) (zs : List costs.Effect) (z : costs.Effect) → IsOn r.service (flow_read r) x → Leads r.service (flow_read r) x zs z → Puts r.service (flow_read r) z → Each (λ (y : costs.Effect). IsOn r.service (flow_read r) y × Puts r.service (flow_read r) y) (zs ++ z ∷ [])
  all_put x zs z on (cycle.once a b causes) last = ((caused_on x z on causes, last), tt)
  all_put x zs z on (cycle.onward a y ys b causes more) last =
      let here = caused_on x y on causes in ((here, puts_first y ys z more), all_put y ys z here more last)

  causes_back : (xs : List costs.Effect) → Each (IsOn r.service (flow_read r)) xs → map (cause_named r) (map (effect_number r) xs) ≡ map (cause_of r.service) xs
  causes_back [] on = refl
  causes_back (x ∷ xs) on = λ i. cause_back x on.0 i ∷ causes_back xs on.1 i

pub causes_effects : (r : Reading) (ks : List NumberedNode) (p : List Arrow) → causes_along r ks p ≡ map (cause_named r) (effects_along ks p)
causes_effects r ks [] = refl
causes_effects r ks (a ∷ p) =
    ap (λ (cs : List Cause). causes_to r ks a ++ cs) (causes_effects r ks p) ∙ sym (map-append (cause_named r) (effect_to ks a) (effects_along ks p))

pub take_whole : {X : Type 0} (xs : List X) (y : X) → take (length xs) (xs ++ y ∷ []) ≡ xs
take_whole [] y = refl
take_whole {X} (x ∷ xs) y = ap (λ (zs : List X). x ∷ zs) (take_whole xs y)

pub from_filtered : {X : Type 0} (t : X → Bool) (xs : List X) (x : X) → Among (filter t xs) x → Among xs x
from_filtered t [] x there = there
from_filtered {X} t (y ∷ xs) x there = by (t y) there (from_filtered t xs x)
  where
    by : (b : Bool) → Among (cond b (y ∷ filter t xs) (filter t xs)) x → (Among (filter t xs) x → Among xs x) → (y ≡ x) ⊎ Among xs x
    by true (inl same) behind = inl same
    by true (inr more) behind = inr (behind more)
    by false more behind = inr (behind more)

front_taken : {X : Type 0} (x : X) (ls : List X) (y : X) (along : List X) → along ≡ ls ++ y ∷ [] → take (length along) (x ∷ along) ≡ x ∷ ls
front_taken {X} x ls y along is =
    let long : length (ls ++ y ∷ []) ≡ suc (length ls) = (let e = length-append ls (y ∷ []) in omega (arith, e)) in
    (λ i. take (length (is i)) (x ∷ is i)) ∙ ap (λ n. take n (x ∷ (ls ++ y ∷ []))) long ∙ ap (λ (zs : List X). x ∷ zs) (take_whole ls y)

-- THE FIRST CYCLE

module _ (r : Reading) (read : IsReading r) (ts : Places) (layers : AreLayers (price r) (kept r) ts) (ks : List NumberedNode) (g : Graph) (node_graph : IsNodeGraphOf r (unlaid ts (active_nodes r)) ks g) where
  -- an effect that puts itself to work is not laid
  on_left : (x : costs.Effect) (zs : List costs.Effect) → IsCycle r.service (flow_read r) x zs → Among (unlaid ts (active_nodes r)) (effect_number r x)
  on_left x zs own = by (is_laid ts (effect_number r x)) refl
    where
      by : (b : Bool) → is_laid ts (effect_number r x) ≡ b → Among (unlaid ts (active_nodes r)) (effect_number r x)
      by true e = absurd (no_laid_cycle r read ts layers x own.on e zs own.leads)
      by false e =
          let put = puts_first x zs x own.leads in
          among_filtered (λ k. not (is_laid ts k)) (active_nodes r) (effect_number r x) (ap not e) (on_listed r read x put.0 own.on put.1)

  node_there : (k : NumberedNode) → Among (unlaid ts (active_nodes r)) k → slice_get ks (node_index ks k) ≡ Some k
  node_there k there = node_found ks k (each_among (Among ks) (unlaid ts (active_nodes r)) k node_graph.listed there)

  -- and is on a cycle of nodes
  nodes_on : (x : costs.Effect) (zs : List costs.Effect) → IsCycle r.service (flow_read r) x zs → NoCycle g (node_index ks (effect_number r x)) → ⊥
  nodes_on x zs own none =
      let way = (node_graphs_tell r ks (label_in r node_graph.effect_sites) g read node_graph.node_graph x own.on (node_index ks (effect_number r x)) (node_there (effect_number r x) (on_left x zs own))).there zs own.leads in
      none way.0 way.1

  pub none_found : AreBest r ks g (unlaid ts (active_nodes r)) None → NoCycles r.service (flow_read r)
  none_found best x zs own = nodes_on x zs own (best (effect_number r x) (on_left x zs own))

  -- it is active, and puts another to work
  abbrev IsAtWork : costs.Effect → Type 0
  IsAtWork x = IsOn r.service (flow_read r) x × Puts r.service (flow_read r) x

  order : (x y : costs.Effect) → IsAtWork x → IsAtWork y → nat_cmp (label_in r node_graph.effect_sites (effect_number r x)) (label_in r node_graph.effect_sites (effect_number r y)) ≡ by_place (cause_of r.service x) (cause_of r.service y)
  order x y on also =
      labels_order r (active_nodes r) node_graph.effect_sites node_graph.are (effect_number r x) (effect_number r y)
      (on_listed r read x on.1.0 on.0 on.1.1) (on_listed r read y also.1.0 also.0 also.1.1)
      ∙ (λ i. by_place (cause_back r read x on.0 i) (cause_back r read y also.0 i))

  long : (x : costs.Effect) (zs : List costs.Effect) → length (map (λ z. label_in r node_graph.effect_sites (effect_number r z)) (zs ++ x ∷ [])) ≡ length zs + 1
  long x zs = length-map (zs ++ x ∷ []) (λ z. label_in r node_graph.effect_sites (effect_number r z)) ∙ length-append zs (x ∷ [])

  compared : (x : costs.Effect) (ys zs : List costs.Effect) → Each IsAtWork (ys ++ x ∷ []) → Each IsAtWork (zs ++ x ∷ []) → length ys ≡ length zs → slice_cmp by_place (map (cause_of r.service) ys) (map (cause_of r.service) zs) ≡ Less
      → slice_cmp nat_cmp (map (λ z. label_in r node_graph.effect_sites (effect_number r z)) (ys ++ x ∷ [])) (map (λ z. label_in r node_graph.effect_sites (effect_number r z)) (zs ++ x ∷ [])) ≡ Less
  compared x ys zs on also same less =
      labels_compare (λ z. label_in r node_graph.effect_sites (effect_number r z)) (cause_of r.service) IsAtWork order (ys ++ x ∷ []) (zs ++ x ∷ []) on also
      ∙ (λ i. slice_cmp by_place (map-append (cause_of r.service) ys (x ∷ []) i) (map-append (cause_of r.service) zs (x ∷ []) i))
      ∙ less_in_front by_place (map (cause_of r.service) ys) (map (cause_of r.service) zs) (cause_of r.service x ∷ []) (cause_of r.service x ∷ [])
      (length-map ys (cause_of r.service) ∙ same ∙ sym (length-map zs (cause_of r.service))) less

  pub found : (b : Best) (cs : List Cause) → IsBest r ks g (unlaid ts (active_nodes r)) b → cs ≡ take (length (causes_along r ks b.trail.items)) (b.cause ∷ causes_along r ks b.trail.items) → AreFirstCycle r.service (flow_read r) cs
  found b cs best are = record { effect = x; behind = zs; first = first; causes = causes }
    where
      effect : (x : costs.Effect) × IsOn r.service (flow_read r) x × (number r (node_of x) ≡ b.node)
      effect = listed_on r b.node (from_filtered (λ k. not (is_laid ts k)) (active_nodes r) b.node best.there)

      x : costs.Effect
      x = effect.0

      on : IsOn r.service (flow_read r) x
      on = effect.1

      tells : CyclesAreTold r ks (label_in r node_graph.effect_sites) g x (node_index ks b.node)
      tells = node_graphs_tell r ks (label_in r node_graph.effect_sites) g read node_graph.node_graph x on (node_index ks b.node) (node_there b.node best.there ∙ ap (λ (k : NumberedNode). Some k) (sym effect.2))

      told : (zs : List costs.Effect) × Leads r.service (flow_read r) x zs x × (map (effect_number r) (zs ++ x ∷ []) ≡ effects_along ks b.trail.items) × (labels_along b.trail.items ≡ map (λ z. label_in r node_graph.effect_sites (effect_number r z)) (zs ++ x ∷ []))
      told = tells.told b.trail.items best.first.chain

      zs : List costs.Effect
      zs = told.0

      own : b.cause ≡ cause_of r.service x
      own = best.cause ∙ ap (cause_named r) (sym effect.2) ∙ cause_back r read x on

      not_before : (y : costs.Effect) (ys : List costs.Effect) → IsCycle r.service (flow_read r) y ys → is_lt (by_effect_site (cause_of r.service y) (cause_of r.service x)) ≡ false
      not_before y ys also = by (is_lt (by_effect_site (cause_of r.service y) (cause_of r.service x))) refl
        where
          by : (c : Bool) → is_lt (by_effect_site (cause_of r.service y) (cause_of r.service x)) ≡ c → is_lt (by_effect_site (cause_of r.service y) (cause_of r.service x)) ≡ false
          by false e = e
          by true e =
              absurd (nodes_on y ys also (best.soonest (effect_number r y) (on_left y ys also)
              ((λ i. is_lt (by_effect_site (cause_back r read y also.on i) (own i))) ∙ e)))

      first : IsFirst r.service (flow_read r) x zs
      first = record {
        cycle = record { on = on; leads = told.1 };
        first = not_before;
        shortest = λ ys also.
            let way = tells.there ys also.leads in
            let less = best.first.shortest way.0 way.1 in
            let here : length (labels_along b.trail.items) ≡ length zs + 1 = ap length told.3 ∙ long x zs in
            let there : length (labels_along way.0) ≡ length ys + 1 = ap length way.2 ∙ long x ys in
            omega (arith, less, here, there);
        least = λ ys also same less.
            let way = tells.there ys also.leads in
            best.first.first way.0 way.1
            (ap length way.2 ∙ long x ys ∙ ap (λ n. n + 1) same ∙ sym (long x zs) ∙ sym (ap length told.3))
            ((λ i. slice_cmp nat_cmp (way.2 i) (told.3 i))
            ∙ compared x ys zs (all_put r read x ys x on also.leads (puts_first x ys x also.leads)) (all_put r read x zs x on told.1 (puts_first x zs x told.1)) same less);
      }

      along : causes_along r ks b.trail.items ≡ map (cause_of r.service) zs ++ cause_of r.service x ∷ []
      along =
          causes_effects r ks b.trail.items ∙ ap (map (cause_named r)) (sym told.2) ∙ causes_back r read (zs ++ x ∷ []) (all_on r read x zs x on told.1)
          ∙ map-append (cause_of r.service) zs (x ∷ [])

      causes : cs ≡ map (cause_of r.service) (x ∷ zs)
      causes =
          are ∙ front_taken b.cause (map (cause_of r.service) zs) (cause_of r.service x) (causes_along r ks b.trail.items) along
          ∙ ap (λ (c : Cause). c ∷ map (cause_of r.service) zs) own

-- AND SO IT IS OF WHAT WAS READ

pub left_kept : (r : Reading) → IsReading r → (ts : Places) (all left xs : List NumberedNode) → all ≡ active_nodes r → left ≡ unlaid ts all → xs ≡ left → Each (kept r) xs
left_kept r read ts all left xs every is same =
    subst (λ (zs : List NumberedNode). Each (kept r) zs) (sym (same ∙ is ∙ ap (unlaid ts) every))
    (among_each (kept r) (unlaid ts (active_nodes r)) (λ k there. each_among (kept r) (active_nodes r) k (listed_kept r read) (from_filtered (λ j. not (is_laid ts j)) (active_nodes r) k there)))

pub none_of : (r : Reading) → IsReading r → (ts : Places) → AreLayers (price r) (kept r) ts → (all left xs ys ks : List NumberedNode) (g : Graph) (best : Option Best) → all ≡ active_nodes r → left ≡ unlaid ts all → xs ≡ left → ys ≡ left → IsNodeGraphOf r xs ks g → AreBest r ks g ys best → best ≡ None → NoCycles r.service (flow_read r)
none_of r read ts layers all left xs ys ks g best every is same also node_graph found none =
    let these : left ≡ unlaid ts (active_nodes r) = is ∙ ap (unlaid ts) every in
    none_found r read ts layers ks g (subst (λ (zs : List NumberedNode). IsNodeGraphOf r zs ks g) (same ∙ these) node_graph)
    (subst (AreBest r ks g (unlaid ts (active_nodes r))) none (subst (λ (zs : List NumberedNode). AreBest r ks g zs best) (also ∙ these) found))

pub some_of : (r : Reading) → IsReading r → (ts : Places) → AreLayers (price r) (kept r) ts → (all left xs ys ks : List NumberedNode) (g : Graph) (best : Option Best) (b : Best) (cs : List Cause) → all ≡ active_nodes r → left ≡ unlaid ts all → xs ≡ left → ys ≡ left → IsNodeGraphOf r xs ks g → AreBest r ks g ys best → best ≡ Some b
    → cs ≡ take (length (causes_along r ks b.trail.items)) (b.cause ∷ causes_along r ks b.trail.items) → AreFirstCycle r.service (flow_read r) cs
some_of r read ts layers all left xs ys ks g best b cs every is same also node_graph tried some =
    let these : left ≡ unlaid ts (active_nodes r) = is ∙ ap (unlaid ts) every in
    found r read ts layers ks g (subst (λ (zs : List NumberedNode). IsNodeGraphOf r zs ks g) (same ∙ these) node_graph) b cs
    (subst (AreBest r ks g (unlaid ts (active_nodes r))) some (subst (λ (zs : List NumberedNode). AreBest r ks g zs best) (also ∙ these) tried))

-- of the service and the flow that were read
pub turned : (P : Service → Solved → Type 0) (r : Reading) (v : Service) (f : Solved) → r.service ≡ v → r.flow ≡ f → P r.service r.flow → P v f
turned P r v f service flow h = subst (λ (g : Solved). P v g) flow (subst (λ (u : Service). P u r.flow) service h)

-- all of them are effects that are kept
pub listed_effects : (r : Reading) → IsReading r → Each (IsEffectKept r) (active_nodes r)
listed_effects r read = among_each (IsEffectKept r) (active_nodes r) (λ k there. (each_among (kept r) (active_nodes r) k (listed_kept r read) there, by k (listed_on r k there)))
  where
    by : (k : NumberedNode) → (x : costs.Effect) × IsOn r.service (flow_read r) x × (number r (node_of x) ≡ k) → is_effect_node k ≡ true
    by k (x, on, same) = subst (λ (j : NumberedNode). is_effect_node j ≡ true) same refl

pub left_effects : (r : Reading) → IsReading r → (ts : Places) (all left xs : List NumberedNode) → all ≡ active_nodes r → left ≡ unlaid ts all → xs ≡ left → Each (IsEffectKept r) xs
left_effects r read ts all left xs every is same =
    subst (λ (zs : List NumberedNode). Each (IsEffectKept r) zs) (sym (same ∙ is ∙ ap (unlaid ts) every))
    (among_each (IsEffectKept r) (unlaid ts (active_nodes r)) (λ k there. each_among (IsEffectKept r) (active_nodes r) k (listed_effects r read) (from_filtered (λ j. not (is_laid ts j)) (active_nodes r) k there)))
