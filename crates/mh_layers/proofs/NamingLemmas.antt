-- What puts an effect to work that has the number of a link's is an event, so that its object is a link that names the source and
-- the type of events.
use Rattle.std.specs.Prelude.{◌≡◌, ◌≤◌, ◌+◌, ℕ, zero, suc, ◌==◌, Bool, true, false, ◌&&◌, not, if◌then◌else◌, List, ◌∷◌, filter, length, Option, Some, None, pos, refl}
use Rattle.std.specs.Cmp.Derive.{both_true}
use Rattle.std.specs.List.{list_any, range_with_len}
use Rattle.std.specs.Option.{is_some, option_map_or}
use Rattle.std.proofs.Common.{arith, inl, inr, ap, ◌∙◌, sym, subst}
use Rattle.std.proofs.lemmas.Bool.Decides.{Decides-eqb}
use Rattle.mh_base.specs.declared.obj_ref.ObjRef.{ObjRef}
use Rattle.mh_base.specs.declared.value.Value.{Value}
use Rattle.mh_base.specs.declared.value.Value.TheVariants as value
use Rattle.mh_base.specs.declared.event.EventType.{EventType}
use Rattle.mh_base.specs.declared.event.EventType.TheVariants as event
use Rattle.mh_base.specs.Event.{is_sync}
use Rattle.mh_group.specs.declared.action_name.ActionName.{ActionName}
use Rattle.mh_group.specs.declared.action_name.ActionName.TheVariants as action
use Rattle.mh_group.specs.declared.attribute.Attribute.TheVariants as attribute
use Rattle.mh_group.specs.declared.class.Class.{Class}
use Rattle.mh_group.specs.declared.class.Class.TheVariants as class
use Rattle.mh_group.specs.Table.{has_content, is_link}
use Rattle.mh_model.specs.declared.act.Argument.{Argument}
use Rattle.mh_model.specs.declared.act.Argument.TheVariants as argument
use Rattle.mh_model.specs.declared.config.Config.{Config}
use Rattle.mh_model.specs.declared.event.Event.{Event}
use Rattle.mh_model.specs.declared.object.member.Member.{Member}
use Rattle.mh_model.specs.declared.object.Fixed.{Fixed}
use Rattle.mh_model.specs.Configuration.{present}
use Rattle.mh_model.specs.Groups.{is_initially_active}
use Rattle.mh_model.specs.Items.{hears_data, hears_source, hears_type}
use Rattle.mh_model.specs.Known.{class_at}
use Rattle.mh_model.specs.Property.{as_event, as_reference, as_value, held}
use Rattle.mh_model.specs.Reference.{group_ref, same_key, same_ref}
use Rattle.mh_model.specs.Saying.{event_numbered}
use Rattle.mh_model.specs.Service.{Service, group_parts, is_there, part_at}
use Rattle.mh_model.specs.Tokens.{members}
use Rattle.mh_model.proofs.ListLemmas.{and_left, and_right, some_same}
use Rattle.mh_laws.specs.Costs.{Effect, act, acts_price, can_hear, change, data_sent, done_to, effect, effect_at, effect_price, emit, enter, entry, event_from, exchange, fired, fired_if_there, first_slot, group_effect, group_halt, group_run, halt, halt_alone, heard_by, leave_all, leave_scene, link_effect, named, named_data, on_close_down, on_start_up, rise, rise_of, run, run_alone, scene_closes, sends, share, slot_numbers, slots, targets}
use Rattle.mh_laws.specs.Each.{Among}
use Rattle.mh_laws.specs.Flow.{Flow, reached}
use Rattle.mh_laws.specs.Layers.{Causes}
use Rattle.mh_laws.specs.Price.{Nothing, Nodes, if_price, most_price, sum_price}
use Rattle.mh_laws.specs.Safe.{exchanged}
use Rattle.mh_laws.specs.Ways.{Told, Sure, Unsure, Share, Prepares, Runs, Halts, Drops, Tells, Sends, Changes, Slots, slots_of, ways}
use Rattle.mh_laws.proofs.PriceLemmas.{nodes_if, nodes_most, nodes_sum, of_nodes}
use Rattle.mh_layers.specs.declared.numbered_node.NumberedNode.{NumberedNode}
use Rattle.mh_layers.specs.declared.numbered_node.NumberedNode.TheVariants as node
use Rattle.mh_layers.specs.Applied.{number_in}
use Rattle.mh_layers.specs.Listening.{names_event}
use Rattle.mh_layers.specs.Reading.{IsReading, Reading, flow_read}
use Rattle.mh_layers.specs.EffectSites.{effect_named}
use Rattle.mh_layers.specs.Trails.{IsStep}
use Rattle.mh_layers.proofs.FoundLemmas.{present_found}
use Rattle.mh_layers.proofs.HeardLemmas.{among_any, any_among}
use Rattle.mh_layers.proofs.ListeningLemmas.{tells_objects}
use Rattle.mh_layers.proofs.TrailLemmas.{step_causes}

-- the effect is no link's, or its object is such a link
abbrev is_named : Service → Effect → Bool
is_named v y = if y.number == link_effect then list_any (λ p. same_key y.object p.key && names_event p) (present v y.config) else true

abbrev IsNamed : Service → Effect → Type 0
IsNamed v y = is_named v y ≡ true

other_named : (v : Service) (y : Effect) → (y.number == link_effect) ≡ false → IsNamed v y
other_named v y other =
    ap (λ (b : Bool). if b then list_any (λ p. same_key y.object p.key && names_event p) (present v y.config) else true) other

-- Events

hearing_names : (e : Event) (p : Fixed) → can_hear e p ≡ true → names_event p ≡ true
hearing_names e p h =
    let before = and_left (is_link p.class && hears_source (as_value (held attribute.EventSource p.properties)) e.source && hears_type (as_event (held attribute.EventType p.properties)) e.kind) (hears_data (as_value (held attribute.EventData p.properties)) e.data) h in
    let first = and_left (is_link p.class && hears_source (as_value (held attribute.EventSource p.properties)) e.source) (hears_type (as_event (held attribute.EventType p.properties)) e.kind) before in
    both_true
    (sourced (is_link p.class) (as_value (held attribute.EventSource p.properties))
    (and_left (is_link p.class) (hears_source (as_value (held attribute.EventSource p.properties)) e.source) first)
    (and_right (is_link p.class) (hears_source (as_value (held attribute.EventSource p.properties)) e.source) first))
    (typed (as_event (held attribute.EventType p.properties))
    (and_right (is_link p.class && hears_source (as_value (held attribute.EventSource p.properties)) e.source) (hears_type (as_event (held attribute.EventType p.properties)) e.kind) before))
  where
    sourced : (b : Bool) (o : Option Value) → b ≡ true → hears_source o e.source ≡ true → is_some (if b then as_reference o else None) ≡ true
    sourced true (Some (value.Object q)) is hears = refl
    sourced true (Some _) is hears = absurd cc
    sourced true None is hears = absurd cc
    sourced false o is hears = absurd cc

    typed : (o : Option EventType) → hears_type o e.kind ≡ true → is_some o ≡ true
    typed None hears = absurd cc
    typed (Some kind) hears = refl

heard_named : (v : Service) (c : Config) (e : Event) → Nodes (IsNamed v) (heard_by c e (present v c))
heard_named v c e =
    nodes_sum (IsNamed v) (λ (p : Fixed). if_price (can_hear e p) (effect c link_effect p)) (present v c)
    (λ p own. nodes_if (IsNamed v) (can_hear e p) (effect c link_effect p)
    (λ hears. among_any (λ (x : Fixed). same_key p.key x.key && names_event x) (present v c) p own (both_true (tells_objects.itself p.key) (hearing_names e p hears))))

fired_named : (v : Service) (c : Config) (r : ObjRef) (kind : EventType) (d : Told) → Nodes (IsNamed v) (fired v c r kind d)
fired_named v c r kind (Sure m) = heard_named v c (event_from r kind m)
fired_named v c r kind Unsure =
    nodes_most (IsNamed v) (λ m. heard_by c (event_from r kind m) (present v c)) (named_data (present v c)) (λ m own. heard_named v c (event_from r kind m))

there_named : (v : Service) (c : Config) (r : ObjRef) (kind : EventType) (d : Told) → Nodes (IsNamed v) (fired_if_there v c r kind d)
there_named v c r kind d = nodes_if (IsNamed v) (is_there r (present v c)) (fired v c r kind d) (λ there. fired_named v c r kind d)

emit_named : (v : Service) (w : Flow) (c : Config) (r : ObjRef) (kind : EventType) (d : Told) → Nodes (IsNamed v) (emit v w c r kind d)
emit_named v w c r kind d = (tt, by (is_sync kind))
  where
    by : (b : Bool) → Nodes (IsNamed v) (if b then fired_if_there v c r kind d else entry v w r kind d)
    by true = there_named v c r kind d
    by false = (tt, nodes_most (IsNamed v) (λ x. fired_if_there v x r kind d) w.configs (λ x own. there_named v x r kind d))

-- Life

rise_named : (v : Service) (w : Flow) (c : Config) (r : ObjRef) → Nodes (IsNamed v) (rise v w c r)
rise_named v w c r = by (class_at r (present v c))
  where
    by : (m : Option Class) → Nodes (IsNamed v) (option_map_or (rise_of v w c r) m Nothing)
    by None = tt
    by (Some k) = (
      emit_named v w c r event.IsAvailable (Sure None),
      nodes_if (IsNamed v) (has_content k) (emit v w c r event.ContentAvailable (Sure None)) (λ e. emit_named v w c r event.ContentAvailable (Sure None)),
    )

run_alone_named : (v : Service) (w : Flow) (c : Config) (r : ObjRef) → Nodes (IsNamed v) (run_alone v w c r)
run_alone_named v w c r = (tt, (rise_named v w c r, emit_named v w c r event.IsRunning (Sure None)))

halt_alone_named : (v : Service) (w : Flow) (c : Config) (r : ObjRef) → Nodes (IsNamed v) (halt_alone v w c r)
halt_alone_named v w c r = (tt, emit_named v w c r event.IsStopped (Sure None))

all_halted : (v : Service) (w : Flow) (c : Config) (rs : List ObjRef) → Nodes (IsNamed v) (sum_price (halt_alone v w c) rs)
all_halted v w c rs = nodes_sum (IsNamed v) (halt_alone v w c) rs (λ x own. halt_alone_named v w c x)

change_named : (v : Service) (w : Flow) (c : Config) (r : ObjRef) → Nodes (IsNamed v) (change v w c r)
change_named v w c r = (
  all_halted v w c (w.sets c r),
  (
    nodes_sum (IsNamed v) (run_alone v w c) (w.sets c r) (λ x own. run_alone_named v w c x),
    (
      emit_named v w c r event.FirstItemPresented Unsure,
      (
        emit_named v w c r event.LastItemPresented Unsure,
        (emit_named v w c r event.HeadItems Unsure, emit_named v w c r event.TailItems Unsure),
      ),
    ),
  ),
)

run_named : (v : Service) (w : Flow) (c : Config) (r : ObjRef) → Nodes (IsNamed v) (run v w c r)
run_named v w c r = (run_alone_named v w c r, by (part_at r (present v c)))
  where
    by_class : (p : Fixed) (k : Class) → Nodes (IsNamed v) (group_run v w c r p k)
    by_class p class.TokenGroup = (
      nodes_sum (IsNamed v) (λ (m : Member). run_alone v w c m.object) (members p) (λ m own. run_alone_named v w c m.object),
      emit_named v w c r event.TokenMovedTo (Sure (Some (value.Int (pos 1)))),
    )
    by_class p class.ListGroup = change_named v w c r
    by_class p _ = tt

    by : (m : Option Fixed) → Nodes (IsNamed v) (option_map_or (λ (p : Fixed). group_run v w c r p p.class) m Nothing)
    by None = tt
    by (Some p) = by_class p p.class

halt_named : (v : Service) (w : Flow) (c : Config) (r : ObjRef) → Nodes (IsNamed v) (halt v w c r)
halt_named v w c r = (halt_alone_named v w c r, by (part_at r (present v c)))
  where
    by_class : (p : Fixed) (k : Class) → Nodes (IsNamed v) (group_halt v w c r p k)
    by_class p class.TokenGroup = nodes_sum (IsNamed v) (λ (m : Member). halt_alone v w c m.object) (members p) (λ m own. halt_alone_named v w c m.object)
    by_class p class.ListGroup = all_halted v w c (w.sets c r)
    by_class p _ = tt

    by : (m : Option Fixed) → Nodes (IsNamed v) (option_map_or (λ (p : Fixed). group_halt v w c r p p.class) m Nothing)
    by None = tt
    by (Some p) = by_class p p.class

-- Groups

group_named : (v : Service) (c : Config) (g : List ℕ) (n : ℕ) → (n == link_effect) ≡ false → Nodes (IsNamed v) (group_effect v c g n)
group_named v c g n other = by (part_at (group_ref g) (group_parts v g))
  where
    by : (m : Option Fixed) → Nodes (IsNamed v) (option_map_or (effect c n) m Nothing)
    by None = tt
    by (Some p) = other_named v (record { config = c; object = p.key; number = n }) other

enter_named : (v : Service) (w : Flow) (c : Config) (g : List ℕ) → Nodes (IsNamed v) (enter v w c g)
enter_named v w c g = (
  tt,
  (
    group_named v c g on_start_up refl,
    (
      nodes_sum (IsNamed v) (λ (p : Fixed). run v w c p.key) (filter is_initially_active (group_parts v g)) (λ p own. run_named v w c p.key),
      emit_named v w c (group_ref g) event.IsRunning (Sure None),
    ),
  ),
)

exchange_named : (v : Service) (w : Flow) (c : Config) (g : List ℕ) → Nodes (IsNamed v) (exchange v w c g)
exchange_named v w c g =
    (tt, nodes_if (IsNamed v) (reached w (exchanged v c g)) (enter v w (exchanged v c g) g) (λ may. enter_named v w (exchanged v c g) g))

closing_named : (v : Service) (c : Config) → Nodes (IsNamed v) (scene_closes v c)
closing_named v c = by c.scene
  where
    by : (m : Option (List ℕ)) → Nodes (IsNamed v) (option_map_or (λ g. group_effect v c g on_close_down) m Nothing)
    by None = tt
    by (Some g) = group_named v c g on_close_down refl

halts_named : (v : Service) (w : Flow) (c : Config) (ps : List Fixed) → Nodes (IsNamed v) (sum_price (λ (p : Fixed). halt v w c p.key) ps)
halts_named v w c ps = nodes_sum (IsNamed v) (λ (p : Fixed). halt v w c p.key) ps (λ p own. halt_named v w c p.key)

leave_scene_named : (v : Service) (w : Flow) (c : Config) → Nodes (IsNamed v) (leave_scene v w c)
leave_scene_named v w c = (closing_named v c, (halts_named v w c _, halts_named v w c _))

leave_all_named : (v : Service) (w : Flow) (c : Config) → Nodes (IsNamed v) (leave_all v w c)
leave_all_named v w c = (closing_named v c, (group_named v c c.app on_close_down refl, (halts_named v w c _, halts_named v w c _)))

-- Actions

sends_named : (v : Service) (w : Flow) (c : Config) (xs : List Argument) → Nodes (IsNamed v) (sends v w c xs)
sends_named v w c (x ∷ argument.Direct (value.Int n) ∷ more) = by (event_numbered n)
  where
    by : (m : Option EventType) → Nodes (IsNamed v) (option_map_or (λ kind. most_price (λ q. emit v w c q kind (data_sent more)) (named w c x)) m Nothing)
    by None = tt
    by (Some kind) = nodes_most (IsNamed v) (λ q. emit v w c q kind (data_sent more)) (named w c x) (λ q own. emit_named v w c q kind (data_sent more))
sends_named v w c _ = tt

from_range : (a n k : ℕ) → Among (range_with_len a n) k → a ≤ k
from_range a zero k there = absurd cc
from_range a (suc n) k (inl same) = omega (arith, same)
from_range a (suc n) k (inr more) = let far = from_range (a + 1) n k more in omega (arith, far)

no_link : (n : ℕ) → first_slot ≤ n → (n == link_effect) ≡ false
no_link n far = by (n == link_effect) refl
  where
    by : (b : Bool) → (n == link_effect) ≡ b → b ≡ false
    by true e = let same : n ≡ 2 = (Decides-eqb n link_effect).0 e in absurd (omega (arith, same, far))
    by false e = refl

slots_named : (v : Service) (c : Config) (m : Option Fixed) → Nodes (IsNamed v) (option_map_or (slots c) m Nothing)
slots_named v c None = tt
slots_named v c (Some p) =
    nodes_if (IsNamed v) (not (is_link p.class)) (most_price (λ n. effect c n p) (slot_numbers p))
    (λ none. nodes_most (IsNamed v) (λ n. effect c n p) (slot_numbers p)
    (λ n own. other_named v (record { config = c; object = p.key; number = n }) (no_link n (from_range first_slot (length (slots_of p)) n own))))

share_named : (v : Service) (w : Flow) (c : Config) (xs : List Argument) (r : ObjRef) (x : Share) → Nodes (IsNamed v) (share v w c xs r x)
share_named v w c xs r Prepares = (tt, rise_named v w c r)
share_named v w c xs r Runs = run_named v w c r
share_named v w c xs r Halts = halt_named v w c r
share_named v w c xs r Drops = (tt, emit_named v w c r event.IsDeleted (Sure None))
share_named v w c xs r (Tells kind d) = emit_named v w c r kind d
share_named v w c xs r Sends = sends_named v w c xs
share_named v w c xs r Changes = change_named v w c r
share_named v w c xs r Slots = slots_named v c (part_at r (present v c))

put_named : (v : Service) (w : Flow) (c : Config) (n : ActionName) (xs : List Argument) (r : ObjRef) → Nodes (IsNamed v) (most_price (sum_price (share v w c xs r)) (ways n xs))
put_named v w c n xs r =
    nodes_most (IsNamed v) (λ ps. sum_price (share v w c xs r) ps) (ways n xs)
    (λ ps own. nodes_sum (IsNamed v) (share v w c xs r) ps (λ x there. share_named v w c xs r x))

done_named : (v : Service) (w : Flow) (c : Config) (n : ActionName) (xs : List Argument) (r : ObjRef) → Nodes (IsNamed v) (done_to v w c n xs r)
done_named v w c action.TransitionTo xs r = (leave_scene_named v w c, exchange_named v w c r.group)
done_named v w c action.Launch xs r = (leave_all_named v w c, exchange_named v w c r.group)
done_named v w c action.Quit xs r = (leave_all_named v w c, tt)
done_named v w c n xs r = put_named v w c n xs r

-- WHAT IS CAUSED

caused_named : (v : Service) (w : Flow) (x y : Effect) → Causes v w x y → IsNamed v y
caused_named v w x =
    of_nodes (IsNamed v) (effect_price v w x)
    (nodes_most (IsNamed v) (λ (p : Fixed). acts_price v w x.config (effect_at p x.number)) (filter (λ (p : Fixed). same_ref x.object p.key) (present v x.config))
    (λ p own. nodes_sum (IsNamed v) (act v w x.config) (effect_at p x.number)
    (λ a there. (
      tt,
      nodes_most (IsNamed v) (done_to v w x.config a.name a.arguments) (targets w x.config a.target)
          (λ r comes. done_named v w x.config a.name a.arguments r),
    ))))

-- OF A STEP: the last effect is no link's, or its object is a link that names the source and the type of events.
pub step_names : (r : Reading) → IsReading r → (from first to : NumberedNode) → IsStep r from first to → (aim : Fixed) → part_at (effect_named r to).object (present r.service (effect_named r to).config) ≡ Some aim → number_in to ≡ link_effect → names_event aim ≡ true
step_names r read from first to step aim at is = by (any_among (λ (p : Fixed). same_key y.object p.key && names_event p) (present r.service y.config) there)
  where
    y : Effect
    y = effect_named r to

    number : (k : NumberedNode) → (effect_named r k).number ≡ number_in k
    number (node.Effect c o n) = refl
    number _ = refl

    own : (y.number == link_effect) ≡ true
    own = (Decides-eqb y.number link_effect).1 (number to ∙ is)

    there : list_any (λ (p : Fixed). same_key y.object p.key && names_event p) (present r.service y.config) ≡ true
    there =
        subst (λ (b : Bool). (if b then list_any (λ (p : Fixed). same_key y.object p.key && names_event p) (present r.service y.config) else true) ≡ true) own
        (caused_named r.service (flow_read r) (effect_named r from) y (step_causes r read from first to step))

    by : (p : Fixed) × Among (present r.service y.config) p × ((same_key y.object p.key && names_event p) ≡ true) → names_event aim ≡ true
    by found =
        let key : y.object ≡ found.0.key = tells_objects.one y.object found.0.key (and_left (same_key y.object found.0.key) (names_event found.0) found.2) in
        let same : Some aim ≡ Some found.0 = sym at ∙ ap (λ (q : ObjRef). part_at q (present r.service y.config)) key ∙ present_found r.service read.flow.chart.service read.flow.chart.keys y.config found.0 found.1 in
        subst (λ (p : Fixed). names_event p ≡ true) (sym (some_same same)) (and_right (same_key y.object found.0.key) (names_event found.0) found.2)
