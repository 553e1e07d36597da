-- The stages of a way: the dearest effect of those that a node puts to work, and its dearest action.
use Rattle.std.specs.Prelude.{◌≡◌, ◌<◌, ◌≤◌, ◌+◌, ℕ, true, false, List, [], ◌∷◌, ◌++◌, map, min, length, get_or, drop, slice_get, Option, Some, None, is_some, Result, Ok, refl}
use Rattle.std.specs.List.{list_all}
use Rattle.std.specs.Option.{option_map, option_map_or}
use Rattle.std.specs.Ordering.{is_lt}
use Rattle.std.proofs.Common.{arith, ap, ◌∙◌, sym, subst, append-nil, true≢false}
use Rattle.std.proofs.Math.Seq.{append_snoc}
use Rattle.std.proofs.lemmas.List.{drop_more, length-map}
use Rattle.std.proofs.lemmas.Option.{slice_get-map, slice_get_within}
use Rattle.mh_model.specs.declared.act.Act.{Act}
use Rattle.mh_model.specs.declared.config.Config.{Config}
use Rattle.mh_model.specs.declared.object.Fixed.{Fixed}
use Rattle.mh_model.specs.Configuration.{present}
use Rattle.mh_model.specs.Service.{Service, part_at}
use Rattle.mh_model.proofs.ListLemmas.{some_same}
use Rattle.mh_laws.specs.Costs as costs
use Rattle.mh_laws.specs.Costs.{act, effect_at}
use Rattle.mh_laws.specs.Flow.{Flow, reached}
use Rattle.mh_laws.specs.Layers.{Causes, IsCost, IsOn}
use Rattle.mh_laws.specs.Price.{Price, worth}
use Rattle.mh_laws.proofs.EachLemmas.{among_all}
use Rattle.mh_laws.proofs.PriceLemmas.{nodes_both, nodes_map}
use Rattle.mh_layers.specs.declared.cause.Cause.{Cause}
use Rattle.mh_layers.specs.declared.laying.costs.Laid.{Laid}
use Rattle.mh_layers.specs.declared.ways.dearest.Dearest.{Dearest}
use Rattle.mh_layers.specs.declared.numbered_node.NumberedNode.{NumberedNode}
use Rattle.mh_layers.specs.declared.numbered_node.NumberedNode.TheVariants as node
use Rattle.mh_layers.specs.declared.ways.stages.Next.{Next}
use Rattle.mh_layers.specs.declared.ways.stages.Part.{Part}
use Rattle.mh_layers.specs.declared.ways.way.Stage.{Stage}
use Rattle.mh_layers.specs.CostNode.{CostNode, Effect}
use Rattle.mh_layers.specs.Bridge.{cost_by, node_cost, node_of}
use Rattle.mh_layers.specs.Caused.{AreReached, CountsFrom, IsNamed}
use Rattle.mh_layers.specs.Causing.{AreCaused, Counts}
use Rattle.mh_layers.specs.Choosing.{AreChosen, IsChosen, IsLargest, effect_cost, number_at}
use Rattle.mh_layers.specs.Cycle.{by_effect_site, cause_of}
use Rattle.mh_layers.specs.Dearest.{AreStages, IsDearest, IsFirstLargest, IsStage, acts_of, cost_told, price_told}
use Rattle.mh_layers.specs.Applied.{number_in}
use Rattle.mh_layers.specs.Known.{known_worth, told, told_of, top}
use Rattle.mh_layers.specs.Layered.{root_nodes}
use Rattle.mh_layers.specs.Layering.{AreLayers, Places, cost_of, is_laid, laid_in}
use Rattle.mh_layers.specs.Reading.{IsReading, Reading, CostContext, flow_read, heard_read, kept, known_by, name, number, price, context_in}
use Rattle.mh_layers.specs.Staging.{AreStagesFrom, AreStagesTo, IsNext, IsPart, IsPartAt, IsStageBy, PutsFrom, act_worth, all_known}
use Rattle.mh_layers.specs.EffectSites.{cause_named, effect_named}
use Rattle.mh_layers.specs.Trails.{IsActive}
use Rattle.mh_layers.specs.Stretches.{is_effect_node}
use Rattle.mh_layers.specs.NodeGraph.{effect_number}
use Rattle.mh_layers.proofs.ActAgreeLemmas.{act_agrees}
use Rattle.mh_layers.proofs.AgreeLemmas.{Agrees, IsLow}
use Rattle.mh_layers.proofs.ArrowLemmas.{number_named}
use Rattle.mh_layers.proofs.BridgeLemmas.{comes, set}
use Rattle.mh_layers.proofs.CausedLemmas.{counted_named, same_number}
use Rattle.mh_layers.proofs.CausingLemmas.{effect_kept, nodes_cause}
use Rattle.mh_layers.proofs.ChainLemmas.{counts_met}
use Rattle.mh_layers.proofs.ExactLemmas.{known_cut}
use Rattle.mh_layers.proofs.NodeAgreeLemmas.{on_is}
use Rattle.mh_layers.proofs.KnownLemmas as known_lemmas
use Rattle.mh_layers.proofs.KnownLemmas.{known_also, known_same, told_some}
use Rattle.mh_layers.proofs.LayeredLemmas.{costs_of}
use Rattle.mh_layers.proofs.ReadingLemmas.{numbers_are_names}
use Rattle.mh_layers.proofs.ReckonLemmas.{by_worth}
use Rattle.mh_layers.proofs.RootLemmas.{active_rooted}
use Rattle.mh_layers.proofs.ServeLemmas.{read_of, serves}
use Rattle.mh_layers.proofs.TrailLemmas.{active_named}
use Rattle.mh_layers.proofs.WalkLemmas.{named_back}

-- COSTS

some_laid : (o : Option Laid) (a : ℕ) → cost_of o ≡ Some a → is_some o ≡ true
some_laid None a e = absurd cc
some_laid (Some x) a e = refl

ok_same : {E : Type 0} (a b : ℕ) (x : Result ℕ E) → x ≡ Ok a → x ≡ Ok b → a ≡ b
ok_same a b x h e = let both = sym h ∙ e in cc

-- what is known of a node by its number is known by its name
also_named : (r : Reading) (ts : Places) (k : CostNode) (a : ℕ) → known_by r ts k ≡ Ok a → told (cost_by ts (number r)) k ≡ Ok a
also_named r ts k a e = ap (told_of k) (told_some (number r k) (cost_by ts (number r) k) a e)

-- what a price comes to over nodes is its exact cost over effects, cut
pub told_exact : (r : Reading) (read : IsReading r) (ts : Places) → AreLayers (price r) (kept r) ts → (f : costs.Costing) → IsCost r.service (flow_read r) f → (n : ℕ) (p : Price CostNode) (q : Price costs.Effect)
    → Agrees (set by_worth f r.service (flow_read r) (heard_read r) (read_of r read)) n p q → (c : ℕ) → known_worth (known_by r ts) p ≡ Ok c → c ≡ price_told f q
told_exact r read ts layers f is n p q agrees c e =
    ok_same c (min (worth (node_cost r.service (flow_read r) f) p) top) (known_worth (told (cost_by ts (number r))) p) known
    (known_same (told (cost_by ts (number r))) (λ (k : CostNode). Ok (min (node_cost r.service (flow_read r) f k) top)) p
    (nodes_map (λ (k : CostNode). ((a : ℕ) × (cost_by ts (number r) k ≡ Some a)) × IsLow r.service (flow_read r) (heard_read r) n k)
    (λ (k : CostNode). told (cost_by ts (number r)) k ≡ Ok (min (node_cost r.service (flow_read r) f k) top))
    (λ k h. ap (told_of k) ((serves r read).exact ts layers f is k (some_laid (laid_in ts (number r k)) h.0.0 h.0.1) h.1.0)) p
    (nodes_both (λ (k : CostNode). (a : ℕ) × (cost_by ts (number r) k ≡ Some a)) (IsLow r.service (flow_read r) (heard_read r) n) p (known_lemmas.all_known (cost_by ts (number r)) p c known) agrees.low))
    ∙ known_cut (node_cost r.service (flow_read r) f) p)
    ∙ ap (λ (m : ℕ). min m top) (comes r.service (flow_read r) (heard_read r) (read_of r read) f n p q agrees)
  where
    known : known_worth (told (cost_by ts (number r))) p ≡ Ok c
    known = known_also (known_by r ts) (told (cost_by ts (number r))) p c (also_named r ts) e

-- so an action's is
act_exact : (r : Reading) → IsReading r → (ts : Places) → AreLayers (price r) (kept r) ts → (f : costs.Costing) → IsCost r.service (flow_read r) f → (c : Config) → reached (flow_read r) c ≡ true → (a : Act) (n : ℕ)
    → act_worth r ts c a ≡ Ok n → n ≡ price_told f (act r.service (flow_read r) c a)
act_exact r read ts layers f is c here a n e =
    told_exact r read ts layers f is 6 _ (act r.service (flow_read r) c a) (act_agrees (set by_worth f r.service (flow_read r) (heard_read r) (read_of r read)) c here a) n e

-- and an active effect's
effect_exact : (r : Reading) → IsReading r → (ts : Places) → AreLayers (price r) (kept r) ts → list_all (is_laid ts) (root_nodes r) ≡ true → (f : costs.Costing) → IsCost r.service (flow_read r) f → (x : costs.Effect) → IsOn r.service (flow_read r) x
    → effect_cost ts (effect_number r x) ≡ cost_told f x
effect_exact r read ts layers all f is x on =
    costs_of r read ts layers (λ k there. among_all (is_laid ts) (root_nodes r) k all (active_rooted r k there)) f is x on

-- THE FIRST LARGEST

-- the numbers are those of the list, so the first largest of them is that of the list
pub first_of_list : {X : Type 0} (h : X → ℕ) (xs : List X) (ns : List ℕ) (n c : ℕ) (x : X) → ((m : ℕ) (y : X) → slice_get xs m ≡ Some y → slice_get ns m ≡ Some (h y)) → IsFirstLargest (λ (m : ℕ). m) ns n c → slice_get xs n ≡ Some x
    → IsFirstLargest h xs n x × (c ≡ h x)
first_of_list {X} h xs ns n c x same first there = (
  record {
    place = there;
    most = λ m y at. subst (λ (i : ℕ). h y ≤ i) own (first.most m (h y) (same m y at));
    first = λ m y less at. subst (λ (i : ℕ). h y < i) own (first.first m (h y) less (same m y at));
  },
  own,
)
  where
    own : c ≡ h x
    own = some_same (sym first.place ∙ same n x there)

-- ACTIONS

known_there : (o : Option ℕ) (w : Result ℕ NumberedNode) → Some w ≡ option_map (λ (n : ℕ). Ok n) o → (c : ℕ) × (o ≡ Some c) × (w ≡ Ok c)
known_there None w e = absurd cc
known_there (Some c) w e = (c, refl, some_same e)

part_exact : (r : Reading) → IsReading r → (ts : Places) → AreLayers (price r) (kept r) ts → (f : costs.Costing) → IsCost r.service (flow_read r) f → (c : Config) → reached (flow_read r) c ≡ true → (acts : List Act) (p : Part) → (is : IsPart r ts c acts p)
    → IsFirstLargest (λ (a : Act). price_told f (act r.service (flow_read r) c a)) acts p.offset is.act × (p.cost ≡ price_told f (act r.service (flow_read r) c is.act))
part_exact r read ts layers f exact c here acts p is =
    first_of_list (λ (a : Act). price_told f (act r.service (flow_read r) c a)) acts is.costs p.offset p.cost is.act known is.first is.there
  where
    known : (m : ℕ) (a : Act) → slice_get acts m ≡ Some a → slice_get is.costs m ≡ Some (price_told f (act r.service (flow_read r) c a))
    known m a at =
        let found = known_there (slice_get is.costs m) (act_worth r ts c a)
        (ap (option_map (act_worth r ts c)) (sym at) ∙ sym (slice_get-map (act_worth r ts c) acts m)
        ∙ ap (λ (ws : List (Result ℕ NumberedNode)). slice_get ws m) is.known ∙ slice_get-map (λ (n : ℕ). Ok n) is.costs m) in
        found.1 ∙ ap (λ (n : ℕ). Some n) (act_exact r read ts layers f exact c here a found.0 found.2)

pub part_found : (r : Reading) (ts : Places) (c : Config) (acts : List Act) (costs seen : List ℕ) (n m : ℕ) (p : Part) → map (act_worth r ts c) acts ≡ all_known costs → seen ≡ costs → IsLargest seen n → m ≡ number_at seen n → IsPartAt acts n m p → IsPart r ts c acts p
part_found r ts c acts costs seen n m p known same largest is part = record {
  costs = costs;
  known = known;
  first =
      subst (λ (ns : List ℕ). IsFirstLargest (λ (i : ℕ). i) ns p.offset p.cost) same
      (subst (λ (i : ℕ). IsFirstLargest (λ (j : ℕ). j) seen i p.cost) (sym part.offset)
      (subst (IsFirstLargest (λ (j : ℕ). j) seen n) (sym (part.cost ∙ is)) largest));
  act = part.act;
  there = ap (slice_get acts) part.offset ∙ part.there;
  name = part.name;
}

-- the actions are those of the effect
pub acts_found : (r : Reading) (ts us : Places) (k : NumberedNode) (s : CostContext) (p : Fixed) (n : ℕ) (acts : List Act) (part : Part) → us ≡ ts → s ≡ context_in r (effect_named r k).config → part_at (effect_named s.reading k).object (present s.reading.service s.config) ≡ Some p → n ≡ number_in k
    → acts ≡ effect_at p n → IsPart s.reading us s.config acts part → IsPart r ts (effect_named r k).config (acts_of r.service (effect_named r k)) part
acts_found r ts us k s p n acts part laid context found number are is =
    subst (λ (xs : List Act). IsPart r ts (effect_named r k).config xs part) own
    (subst (λ (vs : Places). IsPart r vs (effect_named r k).config acts part) laid (subst (λ (t : CostContext). IsPart t.reading us t.config acts part) context is))
  where
    found_so : part_at (effect_named r k).object (present r.service (effect_named r k).config) ≡ Some p
    found_so = subst (λ (t : CostContext). part_at (effect_named t.reading k).object (present t.reading.service t.config) ≡ Some p) context found

    own : acts ≡ acts_of r.service (effect_named r k)
    own =
        are ∙ ap (effect_at p) (number ∙ sym (number_named r k))
        ∙ ap (λ (o : Option Fixed). option_map_or (λ (q : Fixed). effect_at q (effect_named r k).number) o []) (sym found_so)

-- EFFECTS AMONG NODES

effect_node : (ts : Places) (j : NumberedNode) → 0 < effect_cost ts j → is_effect_node j ≡ true
effect_node ts (node.Effect c o n) some = refl
effect_node ts j some = absurd (omega (arith, some))

-- an effect that a node with this number puts to work
record IsPutTo (r : Reading) (k j : NumberedNode) : Type 0 where
  pub effect : costs.Effect
  pub puts : PutsFrom r k effect
  pub told : effect_number r effect ≡ j

effect_of : (r : Reading) (k : NumberedNode) (of : CostNode) → CountsFrom r k of → (j : NumberedNode) → number r of ≡ j → is_effect_node j ≡ true → IsPutTo r k j
effect_of r k (Effect c o n) counts j told e = record { effect = record { config = c; object = o; number = n }; puts = counts; told = told }
effect_of r k of counts j told e = absurd (true≢false (sym e ∙ ap is_effect_node (sym told) ∙ same_number r of))

-- what is put to work is active
pub puts_on : (r : Reading) → IsReading r → (k : NumberedNode) → IsNamed r k → (y : costs.Effect) → PutsFrom r k y → IsOn r.service (flow_read r) y
puts_on r read k named y puts =
    (counts_met r.service (flow_read r) (heard_read r) (read_of r read) (name r k) (node_of y) named.has puts).0

-- and has its own cause
cause_told : (r : Reading) → IsReading r → (j : NumberedNode) (y : costs.Effect) → IsOn r.service (flow_read r) y → effect_number r y ≡ j → cause_named r j ≡ cause_of r.service y
cause_told r read j y on told = ap (cause_named r) (sym told) ∙ ap (cause_of r.service) (named_back r read y on)

-- THE DEAREST

none_costs : (r : Reading) → IsReading r → (ts : Places) → AreLayers (price r) (kept r) ts → list_all (is_laid ts) (root_nodes r) ≡ true → (k : NumberedNode) (js : List NumberedNode) → IsNamed r k → AreReached r k js → AreChosen r ts js None → AreStagesFrom r k []
none_costs r read ts layers all k js named reach none = record {
  by = λ f is x puts. sym (effect_exact r read ts layers all f is x (puts_on r read k named x puts)) ∙ none (effect_number r x) (reach.all (node_of x) puts);
}

-- what was chosen is an effect that the node puts to work
chosen_effect : (r : Reading) (ts : Places) (k : NumberedNode) (js : List NumberedNode) (d : Dearest) → AreReached r k js → IsChosen r ts js d → IsPutTo r k d.node
chosen_effect r ts k js d reach best =
    let is = reach.each d.node best.there in
    effect_of r k is.of is.counts d.node is.told (effect_node ts d.node (subst (λ (n : ℕ). 0 < n) best.cost best.costs))

chosen_cost : (r : Reading) → IsReading r → (ts : Places) → AreLayers (price r) (kept r) ts → list_all (is_laid ts) (root_nodes r) ≡ true → (f : costs.Costing) → IsCost r.service (flow_read r) f → (js : List NumberedNode) (d : Dearest) → IsChosen r ts js d
    → (y : costs.Effect) → IsOn r.service (flow_read r) y → effect_number r y ≡ d.node → d.cost ≡ cost_told f y
chosen_cost r read ts layers all f is js d best y on told = best.cost ∙ ap (effect_cost ts) (sym told) ∙ effect_exact r read ts layers all f is y on

chosen_dearest : (r : Reading) → IsReading r → (ts : Places) → AreLayers (price r) (kept r) ts → list_all (is_laid ts) (root_nodes r) ≡ true → (f : costs.Costing) → IsCost r.service (flow_read r) f → (k : NumberedNode) (js : List NumberedNode) (d : Dearest) → IsNamed r k
    → AreReached r k js → IsChosen r ts js d → (x : IsPutTo r k d.node) → IsDearest r.service f (PutsFrom r k) x.effect
chosen_dearest r read ts layers all f is k js d named reach best x = record {
  one = x.puts;
  costs = subst (λ (n : ℕ). 0 < n) own best.costs;
  most = λ y puts. subst (λ (n : ℕ). cost_told f y ≤ n) own (subst (λ (n : ℕ). n ≤ d.cost) (exact y puts) (best.most (effect_number r y) (reach.all (node_of y) puts)));
  first = λ y puts e.
      let before = best.first (effect_number r y) (reach.all (node_of y) puts) (exact y puts ∙ e ∙ sym own) in
      subst (λ (z : Cause). is_lt (by_effect_site (cause_of r.service y) z) ≡ false) cause
      (subst (λ (z : Cause). is_lt (by_effect_site z d.cause) ≡ false) (cause_told r read (effect_number r y) y (on y puts) refl) before);
}
  where
    on : (y : costs.Effect) → PutsFrom r k y → IsOn r.service (flow_read r) y
    on y puts = puts_on r read k named y puts

    exact : (y : costs.Effect) → PutsFrom r k y → effect_cost ts (effect_number r y) ≡ cost_told f y
    exact y puts = effect_exact r read ts layers all f is y (on y puts)

    own : d.cost ≡ cost_told f x.effect
    own = chosen_cost r read ts layers all f is js d best x.effect (on x.effect x.puts) x.told

    cause : d.cause ≡ cause_of r.service x.effect
    cause = best.cause ∙ cause_told r read d.node x.effect (on x.effect x.puts) x.told

-- its stage
stage_is : (r : Reading) → IsReading r → (ts : Places) → AreLayers (price r) (kept r) ts → list_all (is_laid ts) (root_nodes r) ≡ true → (f : costs.Costing) → IsCost r.service (flow_read r) f → (js : List NumberedNode) (d : Dearest) → IsChosen r ts js d
    → (y : costs.Effect) → IsOn r.service (flow_read r) y → effect_number r y ≡ d.node → (n : Next) → IsStageBy r ts d n → IsStage r.service (flow_read r) f y n.stage
stage_is r read ts layers all f exact js d best y on told n stage = record {
  offset = stage.part.offset;
  action = is.act;
  dearest = parts.0;
  cause = stage.cause ∙ best.cause ∙ cause_told r read d.node y on told;
  cost = stage.cost ∙ chosen_cost r read ts layers all f exact js d best y on told;
  index = stage.index ∙ ap (λ (x : Cause). x.index + stage.part.offset) (sym stage.cause);
  name = stage.action ∙ is.name;
  part = stage.part_cost ∙ parts.1;
}
  where
    own : effect_named r d.node ≡ y
    own = ap (effect_named r) (sym told) ∙ named_back r read y on

    is : IsPart r ts y.config (acts_of r.service y) stage.part
    is = subst (λ (x : costs.Effect). IsPart r ts x.config (acts_of r.service x) stage.part) own stage.is

    here : reached (flow_read r) y.config ≡ true
    here = (on_is (set by_worth f r.service (flow_read r) (heard_read r) (read_of r read)) y on).here

    parts : IsFirstLargest (λ (a : Act). price_told f (act r.service (flow_read r) y.config a)) (acts_of r.service y) stage.part.offset is.act × (stage.part.cost ≡ price_told f (act r.service (flow_read r) y.config is.act))
    parts = part_exact r read ts layers f exact y.config here (acts_of r.service y) stage.part is

-- stages of those that are put to work are those of the same
pub stages_same : (v : Service) (w : Flow) (f : costs.Costing) (Is So : costs.Effect → Type 0) (ss : List Stage) → ((x : costs.Effect) → Is x → So x) → ((x : costs.Effect) → So x → Is x) → AreStages v w f Is ss → AreStages v w f So ss
stages_same v w f Is So [] to back none = λ x so. none x (back x so)
stages_same v w f Is So (s ∷ ss) to back are = (
  are.0,
  record {
    one = to are.0 are.1.one;
    costs = are.1.costs;
    most = λ y so. are.1.most y (back y so);
    first = λ y so e. are.1.first y (back y so) e;
  },
  are.2,
  are.3,
)

-- ONE MORE STAGE

pub chosen_active : (r : Reading) → IsReading r → (ts : Places) (k : NumberedNode) (js seen : List NumberedNode) (best : Option Dearest) (d : Dearest) → IsNamed r k → AreReached r k js → seen ≡ js → AreChosen r ts seen best → best ≡ Some d → IsActive r d.node
chosen_active r read ts k js seen best d named reach same are some =
    let x = chosen_effect r ts k js d reach (subst (λ (o : Option Dearest). AreChosen r ts js o) some (subst (λ (is : List NumberedNode). AreChosen r ts is best) same are)) in
    subst (IsActive r) x.told (active_named r read x.effect (puts_on r read k named x.effect x.puts))

chosen_next : (r : Reading) → IsReading r → (ts : Places) → AreLayers (price r) (kept r) ts → list_all (is_laid ts) (root_nodes r) ≡ true → (k : NumberedNode) (js : List NumberedNode) (d : Dearest) → IsNamed r k → AreReached r k js → IsChosen r ts js d
    → (n : Next) → IsStageBy r ts d n → AreStagesTo r k (n.stage ∷ []) n.node
chosen_next r read ts layers all k js d named reach best n stage = record {
  named = subst (IsNamed r) (sym stage.node) (counted_named r read k d.node named (reach.each d.node best.there));
  rest = λ ss are. record {
    by = λ f is. (
      x.effect,
      chosen_dearest r read ts layers all f is k js d named reach best x,
      stage_is r read ts layers all f is js d best x.effect on x.told n stage,
      stages_same r.service (flow_read r) f (PutsFrom r n.node) (Causes r.service (flow_read r) x.effect) ss
          (λ y puts. caused.causes y (subst (λ (i : CostNode). Counts r.service (flow_read r) (heard_read r) i (node_of y)) own puts))
          (λ y causes. subst (λ (i : CostNode). Counts r.service (flow_read r) (heard_read r) i (node_of y)) (sym own) (caused.counted y causes)) (are.by f is),
    );
  };
}
  where
    x : IsPutTo r k d.node
    x = chosen_effect r ts k js d reach best

    on : IsOn r.service (flow_read r) x.effect
    on = puts_on r read k named x.effect x.puts

    caused : AreCaused r.service (flow_read r) (heard_read r) x.effect
    caused = nodes_cause r.service (flow_read r) (heard_read r) (read_of r read) x.effect on

    own : name r n.node ≡ node_of x.effect
    own =
        ap (name r) (stage.node ∙ sym x.told)
        ∙ (numbers_are_names r read).back (node_of x.effect) (effect_kept r.service (flow_read r) (heard_read r) (read_of r read) x.effect on)

pub next_none : (r : Reading) → IsReading r → (ts : Places) → AreLayers (price r) (kept r) ts → list_all (is_laid ts) (root_nodes r) ≡ true → (k : NumberedNode) (js seen : List NumberedNode) (best : Option Dearest) → IsNamed r k → AreReached r k js → seen ≡ js → AreChosen r ts seen best
    → best ≡ None → IsNext r k None
next_none r read ts layers all k js seen best named reach same are none =
    none_costs r read ts layers all k js named reach (subst (λ (o : Option Dearest). AreChosen r ts js o) none (subst (λ (is : List NumberedNode). AreChosen r ts is best) same are))

pub next_some : (r : Reading) → IsReading r → (ts : Places) → AreLayers (price r) (kept r) ts → list_all (is_laid ts) (root_nodes r) ≡ true → (k : NumberedNode) (js seen : List NumberedNode) (best : Option Dearest) (d : Dearest) (n : Next) → IsNamed r k → AreReached r k js → seen ≡ js
    → AreChosen r ts seen best → best ≡ Some d → IsStageBy r ts d n → IsNext r k (Some n)
next_some r read ts layers all k js seen best d n named reach same are some stage =
    chosen_next r read ts layers all k js d named reach (subst (λ (o : Option Dearest). AreChosen r ts js o) some (subst (λ (is : List NumberedNode). AreChosen r ts is best) same are)) n stage

-- LOOPS

pub stages_begin : (r : Reading) (k : NumberedNode) → IsNamed r k → AreStagesTo r k [] k
stages_begin r k named = record { named = named; rest = λ ss are. are }

pub stages_more : (r : Reading) (root k : NumberedNode) (so_far new : List Stage) (n : Next) → AreStagesTo r root so_far k → IsNext r k (Some n) → new ≡ so_far ++ n.stage ∷ [] → AreStagesTo r root new n.node
stages_more r root k so_far new n are next now = record {
  named = next.named;
  rest = λ ss behind.
      subst (AreStagesFrom r root) (sym (append_snoc so_far n.stage ss) ∙ ap (λ (xs : List Stage). xs ++ ss) (sym now))
      (are.rest (n.stage ∷ ss) (next.rest ss behind));
}

pub stages_end : (r : Reading) (root k : NumberedNode) (so_far : List Stage) → AreStagesTo r root so_far k → IsNext r k None → AreStagesFrom r root so_far
stages_end r root k so_far are none = subst (AreStagesFrom r root) (append-nil so_far) (are.rest [] none)

-- What actions cost

known_last : {E : Type 0} (ns : List ℕ) (n : ℕ) (rest : List (Result ℕ E)) → map (λ (k : ℕ). Ok k) (ns ++ n ∷ []) ++ rest ≡ map (λ (k : ℕ). Ok k) ns ++ Ok n ∷ rest
known_last [] n rest = refl
known_last {E} (k ∷ ns) n rest = ap (λ (xs : List (Result ℕ E)). Ok k ∷ xs) (known_last ns n rest)

-- one more is known
pub one_known : (f : Act → Result ℕ NumberedNode) (acts : List Act) (i : ℕ) (a : Act) (ns : List ℕ) (n : ℕ) (whole : List (Result ℕ NumberedNode))
    → i < length acts → a ≡ get_or acts i a → f a ≡ Ok n → all_known ns ++ map f (drop i acts) ≡ whole
    → all_known (ns ++ n ∷ []) ++ map f (drop (i + 1) acts) ≡ whole
one_known f acts i a ns n whole less is known before =
    known_last ns n (map f (drop (i + 1) acts))
    ∙ ap (λ (x : Result ℕ NumberedNode). all_known ns ++ x ∷ map f (drop (i + 1) acts)) (sym known ∙ ap f is)
    ∙ ap (λ (xs : List Act). all_known ns ++ map f xs) (sym (drop_more acts i a less))
    ∙ before

pub known_length : (f : Act → Result ℕ NumberedNode) (acts : List Act) (ns : List ℕ) → map f acts ≡ all_known ns → length acts ≡ length ns
known_length f acts ns known = sym (length-map acts f) ∙ ap (λ (ws : List (Result ℕ NumberedNode)). length ws) known ∙ length-map ns (λ (n : ℕ). Ok n)

pub some_numbers : (f : Act → Result ℕ NumberedNode) (acts : List Act) (ns seen : List ℕ) → map f acts ≡ all_known ns → seen ≡ ns → 0 < length acts → 0 < length seen
some_numbers f acts ns seen known same some = subst (λ (n : ℕ). 0 < n) (known_length f acts ns known ∙ ap (λ (ms : List ℕ). length ms) (sym same)) some

pub act_there : (f : Act → Result ℕ NumberedNode) (acts : List Act) (ns seen : List ℕ) (n : ℕ) → map f acts ≡ all_known ns → seen ≡ ns → IsLargest seen n → n < length acts
act_there f acts ns seen n known same largest =
    subst (λ (m : ℕ). n < m) (ap (λ (ms : List ℕ). length ms) same ∙ sym (known_length f acts ns known)) (slice_get_within seen n (number_at seen n) largest.place)
