-- What is known of an active effect that costs something: what each of its actions costs, and that it has some.
use Rattle.std.specs.Prelude.{◌≡◌, ◌<◌, ◌+◌, ℕ, Bool, true, false, List, [], ◌∷◌, length, Option, Some, None, Result, Ok, Err, refl}
use Rattle.std.specs.Option.{option_map_or}
use Rattle.std.proofs.Common.{arith, ap, ◌∙◌, sym, subst}
use Rattle.std.proofs.lemmas.Option.{slice_get_within}
use Rattle.mh_model.specs.declared.act.Act.{Act}
use Rattle.mh_model.specs.declared.object.Fixed.{Fixed}
use Rattle.mh_model.specs.Configuration.{present}
use Rattle.mh_model.specs.Service.{part_at}
use Rattle.mh_laws.specs.Active.{is_active}
use Rattle.mh_laws.specs.Costs as costs
use Rattle.mh_laws.specs.Costs.{effect_at}
use Rattle.mh_laws.specs.Each.{Each}
use Rattle.mh_laws.specs.Price.{Price, Nothing, if_price, sum_price}
use Rattle.mh_laws.specs.View.{act, acts}
use Rattle.mh_layers.specs.declared.laying.costs.Laid.{Laid}
use Rattle.mh_layers.specs.declared.ways.dearest.Dearest.{Dearest}
use Rattle.mh_layers.specs.declared.numbered_node.NumberedNode.{NumberedNode}
use Rattle.mh_layers.specs.declared.numbered_node.NumberedNode.TheVariants as node
use Rattle.mh_layers.specs.CostNode.{CostNode}
use Rattle.mh_layers.specs.Bridge.{node_of}
use Rattle.mh_layers.specs.Choosing.{AreChosen, effect_cost}
use Rattle.mh_layers.specs.Cycle.{first_number}
use Rattle.mh_layers.specs.Dearest.{acts_of}
use Rattle.mh_layers.specs.Applied.{number_in}
use Rattle.mh_layers.specs.CostNodes.{IsKept, effect_of}
use Rattle.mh_layers.specs.Known.{added, known_worth, told}
use Rattle.mh_layers.specs.Layering.{AreLayers, Places, cost_in, cost_of, laid_in}
use Rattle.mh_layers.specs.Reading.{IsReading, Reading, CostContext, around_at, flow_read, heard_read, kept, known_by, name, number, price, price_read, context_in}
use Rattle.mh_layers.specs.Staging.{IsCostly, IsKnown, act_worth}
use Rattle.mh_layers.specs.EffectSites.{cause_named, effect_named}
use Rattle.mh_layers.specs.Stretches.{is_effect_node}
use Rattle.mh_layers.specs.Taking.{or_nothing}
use Rattle.mh_layers.specs.Trails.{IsActive}
use Rattle.mh_layers.proofs.ArrowLemmas.{number_named}
use Rattle.mh_layers.proofs.NamedLemmas.{known_numbered}
use Rattle.mh_layers.proofs.ReadingLemmas.{numbers_are_names}
use Rattle.mh_layers.proofs.NodeGraphLemmas.{active_kept}

-- THE EFFECT

-- its node is that of an effect that is there
own_name : (r : Reading) → IsReading r → (k : NumberedNode) → IsActive r k → name r k ≡ node_of (effect_named r k)
own_name r read k active =
    ap (name r) active.own ∙ (numbers_are_names r read).back (node_of (effect_named r k)) (active_kept r read (effect_named r k) active.on)

pub effect_kept : (r : Reading) → IsReading r → (k : NumberedNode) → IsActive r k → kept r k
effect_kept r read k active =
    subst (IsKept r.service (flow_read r) (heard_read r)) (sym (own_name r read k active)) (active_kept r read (effect_named r k) active.on)

pub costs_effect : (ts : Places) (k : NumberedNode) (cost : ℕ) → cost ≡ effect_cost ts k → 0 < cost → is_effect_node k ≡ true
costs_effect ts (node.Effect c o n) cost is some = refl
costs_effect ts k cost is some = absurd (omega (arith, is, some))

laid_costs : (ts : Places) (k : NumberedNode) → 0 < effect_cost ts k → (x : Laid) × (laid_in ts k ≡ Some x) × (effect_cost ts k ≡ x.cost)
laid_costs ts (node.Effect c o n) some = by (laid_in ts (node.Effect c o n)) refl some
  where
    by : (l : Option Laid) → laid_in ts (node.Effect c o n) ≡ l → 0 < or_nothing (cost_of l) → (x : Laid) × (laid_in ts (node.Effect c o n) ≡ Some x) × (effect_cost ts (node.Effect c o n) ≡ x.cost)
    by None e less = absurd (omega (arith, less))
    by (Some x) e less = (x, e, ap (λ (l : Option Laid). or_nothing (cost_of l)) e)
laid_costs ts k some = absurd (omega (arith, some))

pub chosen_costly : (r : Reading) (ts : Places) (seen : List NumberedNode) (best : Option Dearest) (d : Dearest) → AreChosen r ts seen best → best ≡ Some d → IsCostly r ts d
chosen_costly r ts seen best d are some =
    let chosen = subst (AreChosen r ts seen) some are in
    record { cause = chosen.cause; cost = chosen.cost; costs = chosen.costs }

-- ITS ACTIONS

ok_one : {E : Type 0} (a b : ℕ) (w : Result ℕ E) → w ≡ Ok a → w ≡ Ok b → a ≡ b
ok_one a b w h e = let both = sym h ∙ e in cc

-- where a sum is known, each of its parts is
each_known : (f : CostNode → Result ℕ NumberedNode) (g : Act → Price CostNode) (xs : List Act) (n : ℕ) → known_worth f (sum_price g xs) ≡ Ok n → Each (λ a. IsKnown (known_worth f (g a))) xs
each_known f g [] n e = tt
each_known f g (a ∷ xs) n e = by (known_worth f (g a)) refl (known_worth f (sum_price g xs)) refl e (each_known f g xs)
  where
    by : (x : Result ℕ NumberedNode) → known_worth f (g a) ≡ x → (y : Result ℕ NumberedNode) → known_worth f (sum_price g xs) ≡ y → added x y ≡ Ok n
        → ((m : ℕ) → known_worth f (sum_price g xs) ≡ Ok m → Each (λ b. IsKnown (known_worth f (g b))) xs)
        → Each (λ b. IsKnown (known_worth f (g b))) (a ∷ xs)
    by (Err k) p y q h rest = absurd cc
    by (Ok m) p (Err k) q h rest = absurd cc
    by (Ok m) p (Ok i) q h rest = (record { cost = m; is = p }, rest i q)

some_acts : (f : CostNode → Result ℕ NumberedNode) (g : Act → Price CostNode) (xs : List Act) (n : ℕ) → known_worth f (sum_price g xs) ≡ Ok n → 0 < n → 0 < length xs
some_acts f g [] n e less = let none = ok_one 0 n (known_worth f (sum_price g [])) refl e in absurd (omega (arith, none, less))
some_acts f g (a ∷ xs) n e less = omega arith

-- of an effect that costs something
pub acts_known : (r : Reading) → IsReading r → (ts : Places) → AreLayers (price r) (kept r) ts → (k : NumberedNode) → IsActive r k → 0 < effect_cost ts k
    → (p : Fixed) → part_at (effect_named r k).object (present r.service (effect_named r k).config) ≡ Some p
    → Each (λ a. IsKnown (act_worth r ts (effect_named r k).config a)) (effect_at p (effect_named r k).number) × (0 < length (effect_at p (effect_named r k).number))
acts_known r read ts layers k active some p at = by (is_active (present r.service x.config) p) worth
  where
    x : costs.Effect
    x = effect_named r k

    laid : (y : Laid) × (laid_in ts k ≡ Some y) × (effect_cost ts k ≡ y.cost)
    laid = laid_costs ts k some

    less : 0 < laid.0.cost
    less = subst (λ (n : ℕ). 0 < n) laid.2 some

    known : known_worth (known_by r ts) (price_read r (node_of x)) ≡ Ok laid.0.cost
    known =
        ap (λ (j : CostNode). known_worth (known_by r ts) (price_read r j)) (sym (own_name r read k active))
        ∙ sym (known_numbered (number r) (told (cost_in ts)) (price_read r (name r k)))
        ∙ layers.comes k laid.0 (effect_kept r read k active) laid.1

    worth : known_worth (known_by r ts) (if_price (is_active (present r.service x.config) p) (acts (around_at (context_in r x.config)) (effect_at p x.number))) ≡ Ok laid.0.cost
    worth =
        ap (λ (o : Option Fixed). known_worth (known_by r ts) (option_map_or (effect_of r.service (flow_read r) (heard_read r) x.config x.number) o Nothing)) (sym at) ∙ known

    by : (b : Bool) → known_worth (known_by r ts) (if_price b (acts (around_at (context_in r x.config)) (effect_at p x.number))) ≡ Ok laid.0.cost
        → Each (λ a. IsKnown (act_worth r ts x.config a)) (effect_at p x.number) × (0 < length (effect_at p x.number))
    by true e = (
      each_known (known_by r ts) (act (around_at (context_in r x.config))) (effect_at p x.number) laid.0.cost e,
      some_acts (known_by r ts) (act (around_at (context_in r x.config))) (effect_at p x.number) laid.0.cost e less,
    )
    by false e = let none = ok_one 0 laid.0.cost (known_worth (known_by r ts) (if_price false (acts (around_at (context_in r x.config)) (effect_at p x.number)))) refl e in absurd (omega (arith, none, less))

-- as they are found
pub acts_costly : (r : Reading) → IsReading r → (ts us : Places) → AreLayers (price r) (kept r) ts → us ≡ ts → (k : NumberedNode) → IsActive r k → 0 < effect_cost ts k
    → (s : CostContext) → s ≡ context_in r (effect_named r k).config → (p : Fixed) → part_at (effect_named s.reading k).object (present s.reading.service s.config) ≡ Some p
    → (n : ℕ) → n ≡ number_in k → (xs : List Act) → xs ≡ effect_at p n → Each (λ a. IsKnown (act_worth s.reading us s.config a)) xs × (0 < length xs)
acts_costly r read ts us layers laid k active some s context p at n number xs are =
    subst (λ (ys : List Act). Each (λ a. IsKnown (act_worth s.reading us s.config a)) ys × (0 < length ys)) (sym own)
    (subst (λ (t : CostContext). Each (λ a. IsKnown (act_worth t.reading us t.config a)) (effect_at p (effect_named r k).number) × (0 < length (effect_at p (effect_named r k).number))) (sym context)
    (subst (λ (vs : Places). Each (λ a. IsKnown (act_worth r vs (effect_named r k).config a)) (effect_at p (effect_named r k).number) × (0 < length (effect_at p (effect_named r k).number))) (sym laid)
    (acts_known r read ts layers k active some p (subst (λ (t : CostContext). part_at (effect_named t.reading k).object (present t.reading.service t.config) ≡ Some p) context at))))
  where
    own : xs ≡ effect_at p (effect_named r k).number
    own = are ∙ ap (effect_at p) (number ∙ sym (number_named r k))

-- THE NUMBER OF AN ACTION

pub index_told : (r : Reading) (k : NumberedNode) (p : Fixed) (n offset i : ℕ) → part_at (effect_named r k).object (present r.service (effect_named r k).config) ≡ Some p → n ≡ number_in k → i ≡ first_number n p + offset → i ≡ (cause_named r k).index + offset
index_told r k p n offset i at number is =
    is ∙ ap (λ (m : ℕ). first_number m p + offset) (number ∙ sym (number_named r k))
    ∙ ap (λ (o : Option Fixed). option_map_or (first_number (effect_named r k).number) o 1 + offset) (sym at)

pub offset_within : (r : Reading) (k : NumberedNode) (p : Fixed) (n offset : ℕ) → part_at (effect_named r k).object (present r.service (effect_named r k).config) ≡ Some p → n ≡ number_in k
    → offset < length (acts_of r.service (effect_named r k)) → offset < length (effect_at p n)
offset_within r k p n offset at number less =
    subst (λ (m : ℕ). offset < length (effect_at p m)) (number_named r k ∙ sym number)
    (subst (λ (o : Option Fixed). offset < length (option_map_or (λ (q : Fixed). effect_at q (effect_named r k).number) o [])) at less)

-- at a context
pub part_here : (r : Reading) (k : NumberedNode) (s : CostContext) (p : Fixed) → s ≡ context_in r (effect_named r k).config → part_at (effect_named s.reading k).object (present s.reading.service s.config) ≡ Some p
    → part_at (effect_named r k).object (present r.service (effect_named r k).config) ≡ Some p
part_here r k s p context at = subst (λ (t : CostContext). part_at (effect_named t.reading k).object (present t.reading.service t.config) ≡ Some p) context at

pub not_err : (w : Result ℕ NumberedNode) (k : NumberedNode) (n : ℕ) → w ≡ Err k → w ≡ Ok n → ⊥
not_err w k n h e = let both = sym h ∙ e in absurd cc
