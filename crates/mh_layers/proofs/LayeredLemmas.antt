-- All active effects that have actions are laid.
use Rattle.std.specs.Prelude.{◌≡◌, ◌⊎◌, ◌<◌, ◌+◌, ℕ, Bool, true, false, not, Ok, Err, Result, List, [], ◌∷◌, ◌++◌, map, filter, length, min, Option, Some, None, is_some, refl}
use Rattle.std.specs.List.{flat_map, range_with_len}
use Rattle.std.proofs.Common.{ap, ◌∙◌, sym, subst, arith, inl, inr, true≢false}
use Rattle.std.proofs.lemmas.List.{map-id, map-append}
use Rattle.std.proofs.lemmas.List.FromFn.{map-range_with_len_more}
use Rattle.std.proofs.lemmas.List.Elements.{filter-append}
use Rattle.std.proofs.lemmas.List.Concat.{flat_map-append}
use Rattle.mh_flow.proofs.SiteLemmas.{behind}
use Rattle.mh_model.specs.declared.config.Config.{Config}
use Rattle.mh_model.specs.declared.object.Fixed.{Fixed}
use Rattle.mh_model.specs.declared.act.Act.{Act}
use Rattle.mh_model.specs.Configuration.{present}
use Rattle.mh_model.specs.Step.{is_empty}
use Rattle.mh_model.proofs.ListLemmas.{empty_is}
use Rattle.mh_laws.specs.Active.{is_active}
use Rattle.mh_laws.specs.Costs as costs
use Rattle.mh_laws.specs.Each.{Among, Each}
use Rattle.mh_laws.specs.Layers.{Causes, IsOn, IsCost, IsLayering, effects_in}
use Rattle.mh_laws.specs.Price.{worth}
use Rattle.mh_laws.proofs.EachLemmas.{among_each, among_filtered, among_joined, among_mapped, from_joined, from_mapped}
use Rattle.mh_laws.specs.Flow.{Flow}
use Rattle.mh_model.specs.Service.{Service}
use Rattle.mh_flow.specs.Solved.{Solved, flow_in}
use Rattle.mh_layers.specs.declared.numbered_node.NumberedNode.{NumberedNode}
use Rattle.mh_layers.specs.Bridge.{IsRead, cost_by, has_by, node_of, rank_by}
use Rattle.mh_layers.specs.Layered.{acting, active_nodes, has_actions, nodes_active, nodes_at, nodes_in}
use Rattle.mh_layers.specs.Layering.{AreLayers, CountsKept, NoneRanked, Places, cost_of, is_laid, laid_in}
use Rattle.mh_layers.specs.declared.laying.costs.Laid.{Laid}
use Rattle.mh_layers.specs.Reading.{IsReading, Reading, config_number, flow_read, heard_read, kept, number, price}
use Rattle.mh_layers.specs.Taking.{or_nothing}
use Rattle.mh_laws.proofs.PriceLemmas.{nodes_both, nodes_map, of_nodes}
use Rattle.mh_layers.specs.CostNode.{CostNode}
use Rattle.mh_layers.specs.CostNodes.{Heard, IsKept, IsMet, price_of}
use Rattle.mh_layers.specs.Known.{known_worth, told, told_of, top}
use Rattle.mh_layers.specs.Numbered.{AreNamed}
use Rattle.mh_layers.specs.Bridge.{IsHad, node_cost}
use Rattle.mh_layers.proofs.BridgeLemmas.{comes, comes_to, counted_is_met, nodes_are_exact, set}
use Rattle.mh_layers.proofs.ExactLemmas.{known_cut}
use Rattle.mh_layers.proofs.NodeAgreeLemmas.{effect_agrees, from_filtered, on_kept, one_object}
use Rattle.mh_layers.proofs.KnownLemmas.{known_same}
use Rattle.mh_layers.proofs.ReckonLemmas.{Way, by_test, by_worth, pass_nodes, reckon, reckon_worth}
use Rattle.mh_layers.proofs.ReadingLemmas.{numbers_are_names}
use Rattle.mh_layers.proofs.ServeLemmas.{read_of, serves}

-- an active effect may have a number
pub active_kept : (v : Service) (w : Flow) (h : Heard) → IsRead v w h → (x : costs.Effect) → IsOn v w x → IsKept v w h (node_of x)
active_kept v w h read x on = on_kept (set by_test (λ (y : costs.Effect). true) v w h read) x on

-- and its cost is exact, if it is laid
pub active_exact : (v : Service) (w : Flow) (h : Heard) → IsRead v w h → (has : CostNode → Bool) (cost : CostNode → Option ℕ) (rank : CostNode → ℕ) → AreNamed (price_of v w h) (IsHad v w h has) cost rank
    → (f : costs.Costing) → IsCost v w f → (x : costs.Effect) → IsOn v w x → has (node_of x) ≡ true → cost (node_of x) ≡ Some (min (f x) top)
active_exact v w h read has cost rank named f exact x on here =
    comes_to (cost k) known.0 (known_worth (told cost) (price_of v w h k)) (min (f x) top) known.1 known.2
    (known_same (told cost) (λ i. Ok (min (node_cost v w f i) top)) (price_of v w h k)
    (nodes_map (λ (i : CostNode). (IsHad v w h has i × (rank i < rank k)) × IsMet v w h i) (λ (i : CostNode). told cost i ≡ Ok (min (node_cost v w f i) top))
    (λ i l. ap (told_of i) (nodes_are_exact v w h read has cost rank named f exact i l.0.0.0 l.1)) (price_of v w h k)
    (nodes_both (λ (i : CostNode). IsHad v w h has i × (rank i < rank k)) (IsMet v w h) (price_of v w h k) (named.falls k (here, kept)) (counted_is_met v w h read k kept)))
    ∙ known_cut (node_cost v w f) (price_of v w h k)
    ∙ ap (λ (n : ℕ). Ok (min n top)) (sym (exact x on ∙ sym (comes v w h read f 6 (price_of v w h k) (costs.effect_price v w x) (effect_agrees (set by_worth f v w h read) x on)))))
  where
    k : CostNode
    k = node_of x

    kept : IsKept v w h (node_of x)
    kept = active_kept v w h read x on

    known : (c : ℕ) × (cost (node_of x) ≡ Some c) × (known_worth (told cost) (price_of v w h (node_of x)) ≡ Ok c)
    known = named.comes (node_of x) (here, kept)

-- AN EFFECT WITHOUT ACTIONS

-- it comes to nothing, and puts nothing to work
pub record IsIdle (r : Reading) (x : costs.Effect) : Type 0 where
  pub free : (f : costs.Costing) → worth f (costs.effect_price r.service (flow_read r) x) ≡ 0
  pub causes : (y : costs.Effect) → Causes r.service (flow_read r) x y → ⊥

module _ (r : Reading) (read : IsReading r) (c : Config) (p : Fixed) (n : ℕ) (there : Among (present r.service c) p) (none : costs.effect_at p n ≡ []) where
  comes_to_none : {A : Type 0} (y : Way A) (f : costs.Effect → A) → reckon y f (costs.effect_price r.service (flow_read r) (record { config = c; object = p.key; number = n })) ≡ y.none
  comes_to_none y f =
      sym (one_object (set y f r.service (flow_read r) (heard_read r) (read_of r read)) c p n there)
      ∙ ap (λ (e : List Act). reckon y f (costs.acts_price r.service (flow_read r) c e)) none

  causes_none : (z : costs.Effect) → Causes r.service (flow_read r) (record { config = c; object = p.key; number = n }) z → ⊥
  causes_none z causes =
      true≢false (sym (of_nodes (λ (k : costs.Effect). false ≡ true) (costs.effect_price r.service (flow_read r) (record { config = c; object = p.key; number = n }))
      (pass_nodes (λ (k : costs.Effect). false) (costs.effect_price r.service (flow_read r) (record { config = c; object = p.key; number = n })) (comes_to_none by_test (λ (k : costs.Effect). false))) z causes))

  without_actions : IsIdle r (record { config = c; object = p.key; number = n })
  without_actions = record {
    free = λ f. sym (reckon_worth f (costs.effect_price r.service (flow_read r) (record { config = c; object = p.key; number = n }))) ∙ comes_to_none by_worth f;
    causes = causes_none;
  }

told_empty : {P : Type 0} (p : Fixed) (n : ℕ) → (costs.effect_at p n ≡ [] → P) → (has_actions p n ≡ true → P) → P
told_empty {P} p n none some = by (is_empty (costs.effect_at p n)) refl
  where
    by : (b : Bool) → is_empty (costs.effect_at p n) ≡ b → P
    by true e = none (empty_is (costs.effect_at p n) e)
    by false e = some (ap not e)

-- an active effect that has actions has its number among them
acting_listed : (r : Reading) (c : Config) (p : Fixed) (n : ℕ) → Among (flow_read r).configs c → Among (filter (is_active (present r.service c)) (present r.service c)) p → Among (range_with_len 0 (length (costs.effects p))) n → has_actions p n ≡ true
    → Among (active_nodes r) (number r (node_of (record { config = c; object = p.key; number = n })))
acting_listed r c p n met active there acts =
    among_joined (λ (c : Config). flat_map (nodes_in r c) (filter (is_active (present r.service c)) (present r.service c))) (flow_read r).configs c (number r (node_of (record { config = c; object = p.key; number = n }))) met
    (among_joined (nodes_in r c) (filter (is_active (present r.service c)) (present r.service c)) p (number r (node_of (record { config = c; object = p.key; number = n }))) active
    (among_mapped (λ (m : ℕ). number r (node_of (record { config = c; object = p.key; number = m }))) (acting p) n
    (among_filtered (has_actions p) (range_with_len 0 (length (costs.effects p))) n acts there)))

-- each active effect has, or is idle
listed_or_idle : (r : Reading) → IsReading r → (x : costs.Effect) → IsOn r.service (flow_read r) x → Among (active_nodes r) (number r (node_of x)) ⊎ IsIdle r x
listed_or_idle r read x on =
    let at = from_joined (λ (c : Config). flat_map (effects_in c) (filter (is_active (present r.service c)) (present r.service c))) (flow_read r).configs x on in
    let own = from_joined (effects_in at.0) (filter (is_active (present r.service at.0)) (present r.service at.0)) x at.2 in
    let nth = from_mapped (λ (n : ℕ). place at.0 own.0 n) (range_with_len 0 (length (costs.effects own.0))) x own.2 in
    subst (λ (y : costs.Effect). Among (active_nodes r) (number r (node_of y)) ⊎ IsIdle r y) nth.2
    (told_empty own.0 nth.0
    (λ none. inr (without_actions r read at.0 own.0 nth.0 (from_filtered (is_active (present r.service at.0)) (present r.service at.0) own.0 own.1).1 none))
    (λ acts. inl (acting_listed r at.0 own.0 nth.0 at.1 own.1 nth.1 acts)))
  where
    place : Config → Fixed → ℕ → costs.Effect
    place c p n = record { config = c; object = p.key; number = n }

-- so one that puts another to work has
pub on_listed : (r : Reading) → IsReading r → (x y : costs.Effect) → IsOn r.service (flow_read r) x → Causes r.service (flow_read r) x y → Among (active_nodes r) (number r (node_of x))
on_listed r read x y on causes = by (listed_or_idle r read x on)
  where
    by : Among (active_nodes r) (number r (node_of x)) ⊎ IsIdle r x → Among (active_nodes r) (number r (node_of x))
    by (inl there) = there
    by (inr idle) = absurd (idle.causes y causes)

-- and nothing else is among them
pub listed_on : (r : Reading) (k : NumberedNode) → Among (active_nodes r) k → (x : costs.Effect) × IsOn r.service (flow_read r) x × (number r (node_of x) ≡ k)
listed_on r k there =
    let at = from_joined (λ (c : Config). flat_map (nodes_in r c) (filter (is_active (present r.service c)) (present r.service c))) (flow_read r).configs k there in
    let own = from_joined (nodes_in r at.0) (filter (is_active (present r.service at.0)) (present r.service at.0)) k at.2 in
    let nth = from_mapped (λ (n : ℕ). number r (node_of (place at.0 own.0 n))) (acting own.0) k own.2 in (
      place at.0 own.0 nth.0,
      among_joined (λ (c : Config). flat_map (effects_in c) (filter (is_active (present r.service c)) (present r.service c))) (flow_read r).configs at.0 (place at.0 own.0 nth.0) at.1
          (among_joined (effects_in at.0) (filter (is_active (present r.service at.0)) (present r.service at.0)) own.0 (place at.0 own.0 nth.0) own.1
          (among_mapped (λ (n : ℕ). place at.0 own.0 n) (range_with_len 0 (length (costs.effects own.0))) nth.0
          (from_filtered (has_actions own.0) (range_with_len 0 (length (costs.effects own.0))) nth.0 nth.1).1)),
      nth.2,
    )
  where
    place : Config → Fixed → ℕ → costs.Effect
    place c p n = record { config = c; object = p.key; number = n }

-- so all of them are kept
pub listed_kept : (r : Reading) → IsReading r → Each (kept r) (active_nodes r)
listed_kept r read = among_each (kept r) (active_nodes r) (λ k there. by k (listed_on r k there))
  where
    by : (k : NumberedNode) → (x : costs.Effect) × IsOn r.service (flow_read r) x × (number r (node_of x) ≡ k) → kept r k
    by k (x, on, same) =
        let has = active_kept r.service (flow_read r) (heard_read r) (read_of r read) x on in
        subst (kept r) same (subst (IsKept r.service (flow_read r) (heard_read r)) (sym ((numbers_are_names r read).back (node_of x) has)) has)

-- where their numbers are laid, ranks are a layering
pub layering_of : (r : Reading) → IsReading r → (ts : Places) → AreLayers (price r) (kept r) ts → ((k : NumberedNode) → Among (active_nodes r) k → is_laid ts k ≡ true) → IsLayering r.service (flow_read r) (λ x. rank_by ts (number r) (node_of x))
layering_of r read ts layers laid = (serves r read).layering ts layers (λ x y on causes. laid (number r (node_of x)) (on_listed r read x y on causes))

-- and costs are exact

unlaid_costs : (o : Option Laid) → is_some o ≡ false → or_nothing (cost_of o) ≡ 0
unlaid_costs None e = refl
unlaid_costs (Some x) e = absurd cc

pub costs_of : (r : Reading) → IsReading r → (ts : Places) → AreLayers (price r) (kept r) ts → ((k : NumberedNode) → Among (active_nodes r) k → is_laid ts k ≡ true)
    → (cost : costs.Costing) → IsCost r.service (flow_read r) cost → (x : costs.Effect) → IsOn r.service (flow_read r) x → or_nothing (cost_by ts (number r) (node_of x)) ≡ min (cost x) top
costs_of r read ts layers laid cost is x on = by (listed_or_idle r read x on)
  where
    exact : is_laid ts (number r (node_of x)) ≡ true → or_nothing (cost_by ts (number r) (node_of x)) ≡ min (cost x) top
    exact here =
        ap or_nothing (active_exact r.service (flow_read r) (heard_read r) (read_of r read) (has_by ts (number r)) (cost_by ts (number r)) (rank_by ts (number r))
        ((serves r read).named ts layers) cost is x on here)

    none : IsIdle r x → (b : Bool) → is_laid ts (number r (node_of x)) ≡ b → or_nothing (cost_by ts (number r) (node_of x)) ≡ min (cost x) top
    none idle true here = exact here
    none idle false e = unlaid_costs (laid_in ts (number r (node_of x))) e ∙ sym (ap (λ (n : ℕ). min n top) (is x on ∙ idle.free cost))

    by : Among (active_nodes r) (number r (node_of x)) ⊎ IsIdle r x → or_nothing (cost_by ts (number r) (node_of x)) ≡ min (cost x) top
    by (inl there) = exact (laid (number r (node_of x)) there)
    by (inr idle) = none idle (is_laid ts (number r (node_of x))) refl

pub counted_kept : (r : Reading) → IsReading r → CountsKept (price r) (kept r)
counted_kept r read = (serves r read).counted

-- and where nodes have no ranks there is no layering
pub none_layered : (r : Reading) → IsReading r → NoneRanked (price r) (kept r) → (rank : costs.Effect → ℕ) → IsLayering r.service (flow_read r) rank → ⊥
none_layered r read = (serves r read).none

-- Loops

range_more : (n : ℕ) → range_with_len 0 (n + 1) ≡ range_with_len 0 n ++ n ∷ []
range_more n =
    sym (map-id (range_with_len 0 (n + 1))) ∙ map-range_with_len_more (λ (m : ℕ). m) 0 n n (omega arith)
    ∙ ap (λ (ms : List ℕ). ms ++ n ∷ []) (map-id (range_with_len 0 n))

-- with one number more, if it has the property
pub numbers_more : (f : ℕ → NumberedNode) (is : ℕ → Bool) (n : ℕ) (old nodes new : List NumberedNode) → nodes ≡ old ++ map f (filter is (range_with_len 0 n)) → new ≡ nodes ++ map f (filter is (n ∷ [])) → new ≡ old ++ map f (filter is (range_with_len 0 (n + 1)))
numbers_more f is n old nodes new so_far more =
    more ∙ ap (λ (ks : List NumberedNode). ks ++ map f (filter is (n ∷ []))) so_far
    ∙ behind old (map f (filter is (range_with_len 0 n))) (map f (filter is (n ∷ [])))
    ∙ ap (λ (ks : List NumberedNode). old ++ ks) (
    sym (map-append f (filter is (range_with_len 0 n)) (filter is (n ∷ [])))
    ∙ ap (map f) (sym (filter-append is (range_with_len 0 n) (n ∷ [])) ∙ ap (filter is) (sym (range_more n))))

pub config_pushed : (r : Reading) (c : Config) (n : ℕ) (ps xs ys : List Fixed) (old one two : List NumberedNode) → n ≡ config_number r c → ps ≡ present r.service c → xs ++ ys ≡ ps
    → one ≡ old ++ flat_map (nodes_at r n) (filter (is_active ps) xs) → two ≡ one ++ flat_map (nodes_at r n) (filter (is_active ps) ys) → two ≡ old ++ nodes_active r c
config_pushed r c n ps xs ys old one two at there joined first second =
    second ∙ ap (λ (ks : List NumberedNode). ks ++ flat_map (nodes_at r n) (filter (is_active ps) ys)) first
    ∙ behind old (flat_map (nodes_at r n) (filter (is_active ps) xs)) (flat_map (nodes_at r n) (filter (is_active ps) ys))
    ∙ ap (λ (ks : List NumberedNode). old ++ ks) (
    sym (flat_map-append (nodes_at r n) (filter (is_active ps) xs) (filter (is_active ps) ys))
    ∙ ap (flat_map (nodes_at r n)) (sym (filter-append (is_active ps) xs ys) ∙ ap (filter (is_active ps)) joined)
    ∙ ap (λ (qs : List Fixed). flat_map (nodes_at r n) (filter (is_active qs) qs)) there
    ∙ ap (λ (m : ℕ). flat_map (nodes_at r m) (filter (is_active (present r.service c)) (present r.service c))) at)

-- the same of a service and a flow that were read
pub none_read : (r : Reading) (v : Service) (f : Solved) → r.service ≡ v → r.flow ≡ f → IsReading r → NoneRanked (price r) (kept r) → (rank : costs.Effect → ℕ) → IsLayering v (flow_in v f) rank → ⊥
none_read r v f service flow read none rank layering =
    none_layered r read none rank
    (subst (λ (g : Solved). IsLayering r.service (flow_in r.service g) rank) (sym flow) (subst (λ (s : Service). IsLayering s (flow_in s f) rank) (sym service) layering))

-- what is refused of one result is refused of another

abbrev err_of : {A E : Type 0} → E → Result A E → E
err_of d (Ok a) = d
err_of d (Err x) = x

pub other_err : {A B E : Type 0} (r : Result A E) (s : Result B E) (w e : E) → r ≡ Err w → r ≡ Err e → s ≡ Err w → s ≡ Err e
other_err {A} {B} {E} r s w e rw re sw = sw ∙ ap (λ (x : E). Err x) (sym (ap (err_of w) rw) ∙ ap (err_of w) re)
