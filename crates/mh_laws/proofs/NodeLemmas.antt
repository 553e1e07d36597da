-- A price counts active effects alone, of configurations that may be reached.
use Rattle.std.specs.Prelude.{◌≡◌, ◌<◌, ℕ, suc, ◌+◌, Bool, true, false, ◌&&◌, ◌||◌, not, if◌then◌else◌, cond, List, [], ◌∷◌, filter, length, Option, Some, None, refl, pos}
use Rattle.std.specs.Cmp.Derive.{both_true}
use Rattle.std.specs.List.{flat_map, range_with_len}
use Rattle.std.specs.Option.{option_map_or}
use Rattle.std.specs.Str.{bytes_eq}
use Rattle.std.proofs.Common.{arith, inl, inr, ap, sym, subst}
use Rattle.std.proofs.lemmas.Slice.Eq.{bytes_eq-Decides}
use Rattle.mh_base.specs.declared.obj_ref.ObjRef.{ObjRef}
use Rattle.mh_base.specs.declared.value.Value.{Value}
use Rattle.mh_base.specs.declared.value.Value.TheVariants as value
use Rattle.mh_base.specs.declared.event.EventType.{EventType}
use Rattle.mh_base.specs.declared.event.EventType.TheVariants as event
use Rattle.mh_base.specs.Event.{is_sync}
use Rattle.mh_group.specs.declared.action_name.ActionName.{ActionName}
use Rattle.mh_group.specs.declared.action_name.ActionName.TheVariants as action
use Rattle.mh_group.specs.declared.attribute.Attribute.TheVariants as attribute
use Rattle.mh_group.specs.declared.class.Class.{Class}
use Rattle.mh_group.specs.declared.class.Class.TheVariants as class
use Rattle.mh_group.specs.Table.{is_link, is_application, has_content}
use Rattle.mh_model.specs.declared.act.Act.{Act}
use Rattle.mh_model.specs.declared.act.Argument.{Argument}
use Rattle.mh_model.specs.declared.act.Argument.TheVariants as argument
use Rattle.mh_model.specs.declared.config.Config.{Config}
use Rattle.mh_model.specs.declared.event.Event.{Event}
use Rattle.mh_model.specs.declared.object.member.Member.{Member}
use Rattle.mh_model.specs.declared.object.Fixed.{Fixed}
use Rattle.mh_model.specs.Configuration.{is_group_of, is_service, present, scene_parts, same_config, same_scene, is_among}
use Rattle.mh_model.specs.Groups.{is_initially_active}
use Rattle.mh_model.specs.Items.{hears_source, hears_type, hears_data}
use Rattle.mh_model.specs.Known.{class_at}
use Rattle.mh_model.specs.Property.{held, as_event, as_value}
use Rattle.mh_model.specs.Reference.{group_ref, same_ref}
use Rattle.mh_model.specs.Saying.{event_numbered}
use Rattle.mh_model.specs.Service.{Service, part_at, group_parts, is_there}
use Rattle.mh_model.specs.Tokens.{members}
use Rattle.mh_model.proofs.ListLemmas.{and_left, and_right, some_same}
use Rattle.mh_model.proofs.ServiceLemmas.{found_group, group_parts_whole, same_ref-same}
use Rattle.mh_laws.specs.Active.{has_source, is_active}
use Rattle.mh_laws.specs.Costs.{Effect, on_start_up, on_close_down, link_effect, first_slot, effects, effect_at, effect, can_hear, event_from, heard_by, named_data, fired, fired_if_there, entry, emit, rise_of, rise, run_alone, halt_alone, change, group_run, group_halt, run, halt, group_effect, enter, exchange, scene_closes, leave_scene, leave_all, targets, named, data_sent, sends, slot_numbers, slots, share, done_to, act, acts_price, effect_price}
use Rattle.mh_laws.specs.Each.{Among}
use Rattle.mh_laws.specs.Flow.{Flow, reached}
use Rattle.mh_laws.specs.Layers.{effects_in, IsOn}
use Rattle.mh_laws.specs.Price.{Nothing, Nodes, sum_price, most_price, if_price}
use Rattle.mh_laws.specs.Safe.{exchanged}
use Rattle.mh_laws.specs.Ways.{Told, Sure, Unsure, Share, Prepares, Runs, Halts, Drops, Tells, Sends, Changes, Slots, slots_of, ways}
use Rattle.mh_laws.proofs.EachLemmas.{among_left, among_right, among_filtered, among_mapped, from_mapped, among_joined, from_joined, among_range, from_range}
use Rattle.mh_laws.proofs.PriceLemmas.{nodes_sum, nodes_most, nodes_if}

-- Configurations and parts

same_scene-same : (m n : Option (List ℕ)) → same_scene m n ≡ true → m ≡ n
same_scene-same None None h = refl
same_scene-same (Some g) (Some x) h = ap Some ((bytes_eq-Decides g x).0 h)
same_scene-same None (Some g) h = absurd cc
same_scene-same (Some g) None h = absurd cc

same_config-same : (c d : Config) → same_config c d ≡ true → c ≡ d
same_config-same c d h =
    let apps : c.app ≡ d.app = (bytes_eq-Decides c.app d.app).0 (and_left (bytes_eq c.app d.app) (same_scene c.scene d.scene) h) in
    let scenes : c.scene ≡ d.scene = same_scene-same c.scene d.scene (and_right (bytes_eq c.app d.app) (same_scene c.scene d.scene) h) in
    λ i. record { app = apps i; scene = scenes i }

pub config_among : (cs : List Config) (c : Config) → is_among cs c ≡ true → Among cs c
config_among [] c h = absurd cc
config_among (d ∷ cs) c h = by (same_config c d) refl h (λ k. config_among cs c k)
  where
    by : (t : Bool) → same_config c d ≡ t → (t || is_among cs c) ≡ true → (is_among cs c ≡ true → Among cs c) → Among (d ∷ cs) c
    by true e h further = inl (sym (same_config-same c d e))
    by false e h further = inr (further h)

scene_itself : (m : Option (List ℕ)) → same_scene m m ≡ true
scene_itself None = refl
scene_itself (Some g) = (bytes_eq-Decides g g).1 refl

pub among_is : (cs : List Config) (c : Config) → Among cs c → is_among cs c ≡ true
among_is [] c h = absurd cc
among_is (d ∷ cs) c (inl same) = first (same_config c d) (is_among cs c) (subst (λ (x : Config). same_config c x ≡ true) (sym same) (both_true ((bytes_eq-Decides c.app c.app).1 refl) (scene_itself c.scene)))
  where
    first : (a b : Bool) → a ≡ true → (a || b) ≡ true
    first true b e = refl
    first false b e = absurd cc
among_is (d ∷ cs) c (inr more) = second (same_config c d) (is_among cs c) (among_is cs c more)
  where
    second : (a b : Bool) → b ≡ true → (a || b) ≡ true
    second true b e = refl
    second false b e = e

-- a part that is found is there
pub part_among : (r : ObjRef) (ps : List Fixed) (p : Fixed) → part_at r ps ≡ Some p → Among ps p
part_among r [] p e = absurd cc
part_among r (x ∷ ps) p e = by (same_ref r x.key) e (λ h. part_among r ps p h)
  where
    by : (b : Bool) → cond b (Some x) (part_at r ps) ≡ Some p → (part_at r ps ≡ Some p → Among ps p) → Among (x ∷ ps) p
    by true is further = inl (some_same is)
    by false is further = inr (further is)

-- Active effects

-- a part that is there and active has active effects
pub is_on : (v : Service) (w : Flow) (c : Config) (p : Fixed) (n : ℕ) → reached w c ≡ true → Among (present v c) p → is_active (present v c) p ≡ true → n < length (effects p) → IsOn v w (record { config = c; object = p.key; number = n })
is_on v w c p n among there active less =
    among_joined (λ (d : Config). flat_map (effects_in d) (filter (is_active (present v d)) (present v d))) w.configs c (record { config = c; object = p.key; number = n }) (config_among w.configs c among)
    (among_joined (effects_in c) (filter (is_active (present v c)) (present v c)) p (record { config = c; object = p.key; number = n }) (among_filtered (is_active (present v c)) (present v c) p active there)
    (among_mapped (λ (k : ℕ). record { config = c; object = p.key; number = k }) (range_with_len 0 (length (effects p))) n (among_range 0 (length (effects p)) n (omega arith) (omega (arith, less)))))

-- an active effect is one of a configuration that may be reached
pub on_reached : (v : Service) (w : Flow) (x : Effect) → IsOn v w x → reached w x.config ≡ true
on_reached v w x on =
    let here = from_joined (λ (d : Config). flat_map (effects_in d) (filter (is_active (present v d)) (present v d))) w.configs x on in
    let part = from_joined (effects_in here.0) (filter (is_active (present v here.0)) (present v here.0)) x here.2 in
    let own = from_mapped (λ (k : ℕ). record { config = here.0; object = part.0.key; number = k }) (range_with_len 0 (length (effects part.0))) x part.2 in
    subst (λ (c : Config). reached w c ≡ true) (ap (λ (y : Effect). y.config) own.2) (among_is w.configs here.0 here.1)

-- a part that is no link is active
ingredient_active : (all : List Fixed) (p : Fixed) → is_link p.class ≡ false → is_active all p ≡ true
ingredient_active all p none = ap (λ (t : Bool). if t then has_source all (as_value (held attribute.EventSource p.properties)) else true) none

-- and a link that hears what comes from something present is

heard_source : (all : List Fixed) (s : Option Value) (source : ObjRef) → hears_source s source ≡ true → is_there source all ≡ true → has_source all s ≡ true
heard_source all None source h there = absurd cc
heard_source all (Some (value.Object r)) source h there = subst (λ (q : ObjRef). is_there q all ≡ true) (sym (same_ref-same r source h)) there
heard_source all (Some (value.Bool b)) source h there = absurd cc
heard_source all (Some (value.Int n)) source h there = absurd cc
heard_source all (Some (value.Octets b)) source h there = absurd cc
heard_source all (Some (value.Content b)) source h there = absurd cc

abbrev source_of : Fixed → Option Value
source_of p = as_value (held attribute.EventSource p.properties)

abbrev type_of : Fixed → Option EventType
type_of p = as_event (held attribute.EventType p.properties)

abbrev data_of : Fixed → Option Value
data_of p = as_value (held attribute.EventData p.properties)

pub hearing_active : (e : Event) (all : List Fixed) (p : Fixed) → is_there e.source all ≡ true → can_hear e p ≡ true → is_active all p ≡ true
hearing_active e all p there h =
    let typed = and_left (is_link p.class && hears_source (source_of p) e.source && hears_type (type_of p) e.kind) (hears_data (data_of p) e.data) h in
    let sourced = and_left (is_link p.class && hears_source (source_of p) e.source) (hears_type (type_of p) e.kind) typed in
    let has = heard_source all (source_of p) e.source (and_right (is_link p.class) (hears_source (source_of p) e.source) sourced) there in
    by (is_link p.class) (has_source all (source_of p)) has
  where
    by : (b c : Bool) → c ≡ true → (if b then c else true) ≡ true
    by true c e = e
    by false c e = refl

-- the effects that every part has come first

start_few : (p : Fixed) → on_start_up < length (effects p)
start_few p = few (length (slots_of p))
  where
    few : (k : ℕ) → 0 < suc (suc (suc k))
    few k = omega arith

close_few : (p : Fixed) → on_close_down < length (effects p)
close_few p = few (length (slots_of p))
  where
    few : (k : ℕ) → 1 < suc (suc (suc k))
    few k = omega arith

link_few : (p : Fixed) → link_effect < length (effects p)
link_few p = few (length (slots_of p))
  where
    few : (k : ℕ) → 2 < suc (suc (suc k))
    few k = omega arith

slot_few : (p : Fixed) (n : ℕ) → Among (slot_numbers p) n → n < length (effects p)
slot_few p n there = few n (length (slots_of p)) (from_range first_slot (length (slots_of p)) n there)
  where
    few : (n k : ℕ) → n < 3 + k → n < suc (suc (suc k))
    few n k less = omega (arith, less)

-- Events

heard_nodes : (v : Service) (w : Flow) (c : Config) (e : Event) → reached w c ≡ true → is_there e.source (present v c) ≡ true → Nodes (IsOn v w) (heard_by c e (present v c))
heard_nodes v w c e among there =
    nodes_sum (IsOn v w) (λ (p : Fixed). if_price (can_hear e p) (effect c link_effect p)) (present v c)
    (λ p own. nodes_if (IsOn v w) (can_hear e p) (effect c link_effect p) (λ hears. is_on v w c p link_effect among own (hearing_active e (present v c) p there hears) (link_few p)))

fired_nodes : (v : Service) (w : Flow) (c : Config) (r : ObjRef) (kind : EventType) (d : Told) → reached w c ≡ true → is_there r (present v c) ≡ true → Nodes (IsOn v w) (fired v c r kind d)
fired_nodes v w c r kind (Sure m) among there = heard_nodes v w c (event_from r kind m) among there
fired_nodes v w c r kind Unsure among there =
    nodes_most (IsOn v w) (λ m. heard_by c (event_from r kind m) (present v c)) (named_data (present v c)) (λ m h. heard_nodes v w c (event_from r kind m) among there)

there_nodes : (v : Service) (w : Flow) (c : Config) (r : ObjRef) (kind : EventType) (d : Told) → reached w c ≡ true → Nodes (IsOn v w) (fired_if_there v c r kind d)
there_nodes v w c r kind d among = nodes_if (IsOn v w) (is_there r (present v c)) (fired v c r kind d) (λ there. fired_nodes v w c r kind d among there)

pub entry_nodes : (v : Service) (w : Flow) (r : ObjRef) (kind : EventType) (d : Told) → Nodes (IsOn v w) (entry v w r kind d)
entry_nodes v w r kind d = (tt, nodes_most (IsOn v w) (λ c. fired_if_there v c r kind d) w.configs (λ c h. there_nodes v w c r kind d (among_is w.configs c h)))

pub emit_nodes : (v : Service) (w : Flow) (c : Config) (r : ObjRef) (kind : EventType) (d : Told) → reached w c ≡ true → Nodes (IsOn v w) (emit v w c r kind d)
emit_nodes v w c r kind d among = (tt, by (is_sync kind))
  where
    by : (b : Bool) → Nodes (IsOn v w) (if b then fired_if_there v c r kind d else entry v w r kind d)
    by true = there_nodes v w c r kind d among
    by false = entry_nodes v w r kind d

-- Life

rise_nodes : (v : Service) (w : Flow) (c : Config) (r : ObjRef) → reached w c ≡ true → Nodes (IsOn v w) (rise v w c r)
rise_nodes v w c r among = by (class_at r (present v c))
  where
    by : (m : Option Class) → Nodes (IsOn v w) (option_map_or (rise_of v w c r) m Nothing)
    by None = tt
    by (Some k) = (emit_nodes v w c r event.IsAvailable (Sure None) among, nodes_if (IsOn v w) (has_content k) (emit v w c r event.ContentAvailable (Sure None)) (λ e. emit_nodes v w c r event.ContentAvailable (Sure None) among))

run_alone_nodes : (v : Service) (w : Flow) (c : Config) (r : ObjRef) → reached w c ≡ true → Nodes (IsOn v w) (run_alone v w c r)
run_alone_nodes v w c r among = (tt, (rise_nodes v w c r among, emit_nodes v w c r event.IsRunning (Sure None) among))

halt_alone_nodes : (v : Service) (w : Flow) (c : Config) (r : ObjRef) → reached w c ≡ true → Nodes (IsOn v w) (halt_alone v w c r)
halt_alone_nodes v w c r among = (tt, emit_nodes v w c r event.IsStopped (Sure None) among)

change_nodes : (v : Service) (w : Flow) (c : Config) (r : ObjRef) → reached w c ≡ true → Nodes (IsOn v w) (change v w c r)
change_nodes v w c r among = (
  nodes_sum (IsOn v w) (halt_alone v w c) (w.sets c r) (λ x h. halt_alone_nodes v w c x among),
  (
    nodes_sum (IsOn v w) (run_alone v w c) (w.sets c r) (λ x h. run_alone_nodes v w c x among),
    (emit_nodes v w c r event.FirstItemPresented Unsure among, (emit_nodes v w c r event.LastItemPresented Unsure among, (emit_nodes v w c r event.HeadItems Unsure among, emit_nodes v w c r event.TailItems Unsure among))),
  ),
)

run_nodes : (v : Service) (w : Flow) (c : Config) (r : ObjRef) → reached w c ≡ true → Nodes (IsOn v w) (run v w c r)
run_nodes v w c r among = (run_alone_nodes v w c r among, by (part_at r (present v c)))
  where
    by_class : (p : Fixed) (k : Class) → Nodes (IsOn v w) (group_run v w c r p k)
    by_class p class.TokenGroup =
        (nodes_sum (IsOn v w) (λ (m : Member). run_alone v w c m.object) (members p) (λ m h. run_alone_nodes v w c m.object among), emit_nodes v w c r event.TokenMovedTo (Sure (Some (value.Int (pos 1)))) among)
    by_class p class.ListGroup = change_nodes v w c r among
    by_class p _ = tt

    by : (m : Option Fixed) → Nodes (IsOn v w) (option_map_or (λ (p : Fixed). group_run v w c r p p.class) m Nothing)
    by None = tt
    by (Some p) = by_class p p.class

halt_nodes : (v : Service) (w : Flow) (c : Config) (r : ObjRef) → reached w c ≡ true → Nodes (IsOn v w) (halt v w c r)
halt_nodes v w c r among = (halt_alone_nodes v w c r among, by (part_at r (present v c)))
  where
    by_class : (p : Fixed) (k : Class) → Nodes (IsOn v w) (group_halt v w c r p k)
    by_class p class.TokenGroup = nodes_sum (IsOn v w) (λ (m : Member). halt_alone v w c m.object) (members p) (λ m h. halt_alone_nodes v w c m.object among)
    by_class p class.ListGroup = nodes_sum (IsOn v w) (halt_alone v w c) (w.sets c r) (λ x h. halt_alone_nodes v w c x among)
    by_class p _ = tt

    by : (m : Option Fixed) → Nodes (IsOn v w) (option_map_or (λ (p : Fixed). group_halt v w c r p p.class) m Nothing)
    by None = tt
    by (Some p) = by_class p p.class

-- Groups

-- an effect of a group that is present
group_nodes : (v : Service) (w : Flow) (c : Config) (g : List ℕ) (n : ℕ) → ((p : Fixed) → n < length (effects p)) → is_service v ≡ true → reached w c ≡ true → ((p : Fixed) → Among (group_parts v g) p → Among (present v c) p) → Nodes (IsOn v w) (group_effect v c g n)
group_nodes v w c g n few good among into = by (part_at (group_ref g) (group_parts v g)) refl
  where
    by : (m : Option Fixed) → part_at (group_ref g) (group_parts v g) ≡ m → Nodes (IsOn v w) (option_map_or (effect c n) m Nothing)
    by None e = tt
    by (Some p) e =
        is_on v w c p n among (into p (part_among (group_ref g) (group_parts v g) p e))
        (ingredient_active (present v c) p (found_group g (group_parts v g) p (group_parts_whole v g good) e)) (few p)

pub enter_nodes : (v : Service) (w : Flow) (c : Config) (g : List ℕ) → is_service v ≡ true → reached w c ≡ true → ((p : Fixed) → Among (group_parts v g) p → Among (present v c) p) → Nodes (IsOn v w) (enter v w c g)
enter_nodes v w c g good among into =
    (tt, (group_nodes v w c g on_start_up start_few good among into, (nodes_sum (IsOn v w) (λ (p : Fixed). run v w c p.key) (filter is_initially_active (group_parts v g)) (λ p h. run_nodes v w c p.key among), emit_nodes v w c (group_ref g) event.IsRunning (Sure None) among)))

exchange_nodes : (v : Service) (w : Flow) (c : Config) (g : List ℕ) → is_service v ≡ true → Nodes (IsOn v w) (exchange v w c g)
exchange_nodes v w c g good =
    (tt, nodes_if (IsOn v w) (reached w (exchanged v c g)) (enter v w (exchanged v c g) g) (λ among. enter_nodes v w (exchanged v c g) g good among (by (is_group_of is_application v g))))
  where
    by : (t : Bool) (p : Fixed) → Among (group_parts v g) p → Among (present v (if t then record { app = g; scene = None } else record c { scene = Some g })) p
    by true p h = among_left (group_parts v g) [] p h
    by false p h = among_right (group_parts v c.app) (group_parts v g) p h

closing_nodes : (v : Service) (w : Flow) (c : Config) → is_service v ≡ true → reached w c ≡ true → Nodes (IsOn v w) (scene_closes v c)
closing_nodes v w c good among = by c.scene (λ p h. among_right (group_parts v c.app) (scene_parts v c.scene) p h)
  where
    by : (m : Option (List ℕ)) → ((p : Fixed) → Among (scene_parts v m) p → Among (present v c) p) → Nodes (IsOn v w) (option_map_or (λ g. group_effect v c g on_close_down) m Nothing)
    by None into = tt
    by (Some g) into = group_nodes v w c g on_close_down close_few good among into

halts_nodes : (v : Service) (w : Flow) (c : Config) (ps : List Fixed) → reached w c ≡ true → Nodes (IsOn v w) (sum_price (λ (p : Fixed). halt v w c p.key) ps)
halts_nodes v w c ps among = nodes_sum (IsOn v w) (λ (p : Fixed). halt v w c p.key) ps (λ p h. halt_nodes v w c p.key among)

leave_scene_nodes : (v : Service) (w : Flow) (c : Config) → is_service v ≡ true → reached w c ≡ true → Nodes (IsOn v w) (leave_scene v w c)
leave_scene_nodes v w c good among = (closing_nodes v w c good among, (halts_nodes v w c _ among, halts_nodes v w c _ among))

leave_all_nodes : (v : Service) (w : Flow) (c : Config) → is_service v ≡ true → reached w c ≡ true → Nodes (IsOn v w) (leave_all v w c)
leave_all_nodes v w c good among =
    (closing_nodes v w c good among, (group_nodes v w c c.app on_close_down close_few good among (λ p h. among_left (group_parts v c.app) (scene_parts v c.scene) p h), (halts_nodes v w c _ among, halts_nodes v w c _ among)))

-- Actions

sends_nodes : (v : Service) (w : Flow) (c : Config) (xs : List Argument) → reached w c ≡ true → Nodes (IsOn v w) (sends v w c xs)
sends_nodes v w c (x ∷ argument.Direct (value.Int n) ∷ more) among = by (event_numbered n)
  where
    by : (m : Option EventType) → Nodes (IsOn v w) (option_map_or (λ kind. most_price (λ q. emit v w c q kind (data_sent more)) (named w c x)) m Nothing)
    by None = tt
    by (Some kind) = nodes_most (IsOn v w) (λ q. emit v w c q kind (data_sent more)) (named w c x) (λ q h. emit_nodes v w c q kind (data_sent more) among)
sends_nodes v w c _ among = tt

slots_nodes : (v : Service) (w : Flow) (c : Config) (r : ObjRef) → reached w c ≡ true → Nodes (IsOn v w) (option_map_or (slots c) (part_at r (present v c)) Nothing)
slots_nodes v w c r among = by (part_at r (present v c)) refl
  where
    untrue : (b : Bool) → not b ≡ true → b ≡ false
    untrue true h = absurd cc
    untrue false h = refl

    by : (m : Option Fixed) → part_at r (present v c) ≡ m → Nodes (IsOn v w) (option_map_or (slots c) m Nothing)
    by None e = tt
    by (Some p) e =
        nodes_if (IsOn v w) (not (is_link p.class)) (most_price (λ n. effect c n p) (slot_numbers p))
        (λ none. nodes_most (IsOn v w) (λ n. effect c n p) (slot_numbers p) (λ n h. is_on v w c p n among (part_among r (present v c) p e) (ingredient_active (present v c) p (untrue (is_link p.class) none)) (slot_few p n h)))

share_nodes : (v : Service) (w : Flow) (c : Config) (xs : List Argument) (r : ObjRef) (x : Share) → reached w c ≡ true → Nodes (IsOn v w) (share v w c xs r x)
share_nodes v w c xs r Prepares among = (tt, rise_nodes v w c r among)
share_nodes v w c xs r Runs among = run_nodes v w c r among
share_nodes v w c xs r Halts among = halt_nodes v w c r among
share_nodes v w c xs r Drops among = (tt, emit_nodes v w c r event.IsDeleted (Sure None) among)
share_nodes v w c xs r (Tells kind d) among = emit_nodes v w c r kind d among
share_nodes v w c xs r Sends among = sends_nodes v w c xs among
share_nodes v w c xs r Changes among = change_nodes v w c r among
share_nodes v w c xs r Slots among = slots_nodes v w c r among

put_nodes : (v : Service) (w : Flow) (c : Config) (n : ActionName) (xs : List Argument) (r : ObjRef) → reached w c ≡ true → Nodes (IsOn v w) (most_price (sum_price (share v w c xs r)) (ways n xs))
put_nodes v w c n xs r among =
    nodes_most (IsOn v w) (λ ps. sum_price (share v w c xs r) ps) (ways n xs) (λ ps h. nodes_sum (IsOn v w) (share v w c xs r) ps (λ x k. share_nodes v w c xs r x among))

done_nodes : (v : Service) (w : Flow) (c : Config) (n : ActionName) (xs : List Argument) (r : ObjRef) → is_service v ≡ true → reached w c ≡ true → Nodes (IsOn v w) (done_to v w c n xs r)
done_nodes v w c action.TransitionTo xs r good among = (leave_scene_nodes v w c good among, exchange_nodes v w c r.group good)
done_nodes v w c action.Launch xs r good among = (leave_all_nodes v w c good among, exchange_nodes v w c r.group good)
done_nodes v w c action.Quit xs r good among = (leave_all_nodes v w c good among, tt)
done_nodes v w c n xs r good among = put_nodes v w c n xs r among

pub acts_nodes : (v : Service) (w : Flow) (c : Config) (e : List Act) → is_service v ≡ true → reached w c ≡ true → Nodes (IsOn v w) (acts_price v w c e)
acts_nodes v w c e good among =
    nodes_sum (IsOn v w) (act v w c) e
    (λ a h. (tt, nodes_most (IsOn v w) (done_to v w c a.name a.arguments) (targets w c a.target) (λ r k. done_nodes v w c a.name a.arguments r good among)))

-- each effect that an active effect counts is active
pub effect_nodes : (v : Service) (w : Flow) (x : Effect) → is_service v ≡ true → IsOn v w x → Nodes (IsOn v w) (effect_price v w x)
effect_nodes v w x good on =
    nodes_most (IsOn v w) (λ (p : Fixed). acts_price v w x.config (effect_at p x.number)) (filter (λ (p : Fixed). same_ref x.object p.key) (present v x.config))
    (λ p h. acts_nodes v w x.config (effect_at p x.number) good (on_reached v w x on))
