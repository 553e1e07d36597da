-- What an input costs that is taken: over nodes as over effects.
use Rattle.std.specs.Prelude.{◌≡◌, ℕ, Bool, true, false, if◌then◌else◌, List, [], filter, reverse, Option, Some, None, refl}
use Rattle.std.specs.Option.{option_map, option_map_or}
use Rattle.std.proofs.Common.{arith, ap, ◌∙◌, sym, subst}
use Rattle.indexmap.specs.IndexSet.{insert_all}
use Rattle.mh_base.specs.declared.obj_ref.ObjRef.{ObjRef}
use Rattle.mh_base.specs.declared.value.Value.{Value}
use Rattle.mh_base.specs.declared.value.Value.TheVariants as value
use Rattle.mh_base.specs.declared.event.EventType.{EventType}
use Rattle.mh_base.specs.declared.event.EventType.TheVariants as event
use Rattle.mh_base.specs.Event.{is_sync}
use Rattle.mh_group.specs.declared.class.Class.{Class}
use Rattle.mh_group.specs.declared.class.Class.TheVariants as class
use Rattle.mh_group.specs.Table.{has_content, is_stream}
use Rattle.mh_model.specs.declared.config.Config.{Config}
use Rattle.mh_model.specs.declared.object.Fixed.{Fixed}
use Rattle.mh_model.specs.Configuration.{present}
use Rattle.mh_model.specs.Reference.{group_ref}
use Rattle.mh_model.specs.Service.{is_there, part_at}
use Rattle.mh_model.proofs.ListLemmas.{and_left, and_right}
use Rattle.mh_laws.specs.Costs as costs
use Rattle.mh_laws.specs.Flow.{reached}
use Rattle.mh_laws.specs.Price.{Price, Nothing, One, Plus, Most, most_price, sum_price, if_price}
use Rattle.mh_laws.specs.View as view
use Rattle.mh_laws.specs.View.{View}
use Rattle.mh_laws.specs.Ways.{Told, Sure, Unsure}
use Rattle.mh_layers.specs.declared.bounds.InputKind.{InputKind}
use Rattle.mh_layers.specs.declared.bounds.InputKind.TheVariants as kind
use Rattle.mh_layers.specs.Inputs as inputs
use Rattle.mh_layers.specs.CostNode.{CostNode, Fired, Enter, Any}
use Rattle.mh_layers.specs.CostNodes.{every_timer, fired_of, has_groups, heard_key, is_named, objects, scene_there, taken_price, takes}
use Rattle.mh_layers.proofs.ActAgreeLemmas.{leaving}
use Rattle.mh_layers.proofs.AgreeLemmas.{Agrees, Setting, agrees_if, agrees_largest, agrees_most, agrees_node, agrees_nothing, agrees_one, agrees_plus, agrees_sum, agrees_then, agrees_wider, effects_come}
use Rattle.mh_layers.proofs.FiredLemmas.{emit_agrees, heard_agrees, silent_fired}
use Rattle.mh_layers.proofs.LifeAgreeLemmas.{exchange_agrees, numbered_service, turned}
use Rattle.mh_layers.proofs.ReckonLemmas.{sum_filtered}
use Rattle.mh_layers.proofs.TimerLemmas.{every_once, once_filtered}

-- what is there
abbrev own : {A : Type 0} → Setting A → Config → View CostNode
own s c = objects s.service s.flow s.heard c

-- an event that waits
waiting : {A : Type 0} (s : Setting A) (c : Config) → reached s.flow c ≡ true → (r : ObjRef) (kind : EventType) (d : Told) → is_sync kind ≡ false → Agrees s 4 ((own s c).dealt_with r kind d) (costs.entry s.service s.flow r kind d)
waiting {A} s c here r kind d waits =
    subst (λ (b : Bool). Agrees s 4 ((own s c).dealt_with r kind d) (if b then costs.fired_if_there s.service c r kind d else costs.entry s.service s.flow r kind d)) waits
    (heard_agrees s c r kind d (s.heard r kind) refl here)

-- what the links put that wait for an event of a group that is there
group_fired : {A : Type 0} (s : Setting A) (c : Config) → reached s.flow c ≡ true → (g : List ℕ) (kind : EventType) → is_there (group_ref g) (present s.service c) ≡ true → (o : Option (List Value)) → s.heard (group_ref g) kind ≡ o → Agrees s 6 (fired_of c (group_ref g) kind o) (costs.fired s.service c (group_ref g) kind Unsure)
group_fired s c here g kind there None e =
    agrees_then s 6 Nothing Nothing (costs.fired s.service c (group_ref g) kind Unsure) (agrees_nothing s 6)
    (sym (silent_fired s c (group_ref g) kind Unsure e here))
group_fired s c here g kind there (Some xs) e =
    agrees_node s 6 (Fired c (group_ref g) kind Any) (here, there, ap (λ (o : Option (List Value)). is_named o Any) e) (omega arith)

-- Keys

keys_heard : {A : Type 0} (s : Setting A) (c : Config) → reached s.flow c ≡ true → scene_there s.service c ≡ true → Agrees s 6 (heard_key s.heard c c.scene) (costs.heard_key s.service c)
keys_heard {A} s c here there = by c.scene there
  where
    by : (scene : Option (List ℕ)) → option_map_or (λ g. is_there (group_ref g) (present s.service c)) scene true ≡ true → Agrees s 6 (heard_key s.heard c scene) (option_map_or (λ g. costs.fired s.service c (group_ref g) event.UserInput Unsure) scene Nothing)
    by None e = agrees_nothing s 6
    by (Some g) e = group_fired s c here g event.UserInput e (s.heard (group_ref g) event.UserInput) refl

pressed_agrees : {A : Type 0} (s : Setting A) (c : Config) → reached s.flow c ≡ true → (r : ObjRef) (k : Class) → Agrees s 4 (inputs.pressed_by (own s c) r k) (costs.pressed s.service s.flow c r k)
pressed_agrees s c here r class.EntryField =
    agrees_most s 4 (view.plain_emit (own s c) r event.EntryFieldFull) (view.plain_emit (own s c) r event.InteractionCompleted)
    (costs.plain_emit s.service s.flow c r event.EntryFieldFull) (costs.plain_emit s.service s.flow c r event.InteractionCompleted)
    (emit_agrees s c here r event.EntryFieldFull (Sure None)) (emit_agrees s c here r event.InteractionCompleted (Sure None))
pressed_agrees s c here r class.PushButton =
    agrees_most s 4 (view.plain_emit (own s c) r event.IsSelected) (view.plain_emit (own s c) r event.InteractionCompleted)
    (costs.plain_emit s.service s.flow c r event.IsSelected) (costs.plain_emit s.service s.flow c r event.InteractionCompleted)
    (emit_agrees s c here r event.IsSelected (Sure None)) (emit_agrees s c here r event.InteractionCompleted (Sure None))
pressed_agrees s c here r _ = agrees_nothing s 4

all_pressed : {A : Type 0} (s : Setting A) (c : Config) → reached s.flow c ≡ true → Agrees s 6 (most_price (inputs.pressed (own s c)) (present s.service c)) (most_price (λ (p : Fixed). costs.pressed s.service s.flow c p.key p.class) (present s.service c))
all_pressed s c here =
    agrees_wider s 4 6 (most_price (inputs.pressed (own s c)) (present s.service c))
    (most_price (λ (p : Fixed). costs.pressed s.service s.flow c p.key p.class) (present s.service c)) (omega arith)
    (agrees_largest s 4 (inputs.pressed (own s c)) (λ (p : Fixed). costs.pressed s.service s.flow c p.key p.class) (present s.service c)
    (λ p there. pressed_agrees s c here p.key p.class))

-- Timers

-- a set of timers, of which a test picks some, is counted as those that are picked, each once
timers_counted : {A : Type 0} (s : Setting A) (h : costs.TimerKey → Price costs.Effect) (is : costs.TimerKey → Bool) (ts : List costs.TimerKey) → effects_come s (sum_price (λ t. if_price (is t) (h t)) (insert_all costs.same_timer [] (reverse ts))) ≡ effects_come s (sum_price h (costs.each_once (filter is ts)))
timers_counted {A} s h is ts =
    ap (λ (xs : List costs.TimerKey). effects_come s (sum_price (λ t. if_price (is t) (h t)) xs)) (every_once ts)
    ∙ turned s (λ t. if_price (is t) (h t)) (costs.each_once ts) ∙ sum_filtered s.way s.of is h (costs.each_once ts)
    ∙ ap (λ (xs : List costs.TimerKey). effects_come s (sum_price h xs)) (once_filtered is ts)

timers_agree : {A : Type 0} (s : Setting A) (c : Config) → reached s.flow c ≡ true → Agrees s 4 (sum_price (inputs.timer_due (own s c) (costs.is_group_in c)) (every_timer s.service s.flow)) (sum_price (costs.timer_entry s.service s.flow) (costs.timers s.service s.flow c))
timers_agree {A} s c here =
    agrees_then s 4 (sum_price (inputs.timer_due (own s c) (costs.is_group_in c)) (every_timer s.service s.flow))
    (sum_price due (every_timer s.service s.flow)) (sum_price (costs.timer_entry s.service s.flow) (costs.timers s.service s.flow c))
    (agrees_sum s 4 (inputs.timer_due (own s c) (costs.is_group_in c)) due (every_timer s.service s.flow) (λ t there. one t))
    (timers_counted s (costs.timer_entry s.service s.flow) (λ t. costs.is_group_in c t.0) (costs.set_timers s.service s.flow))
  where
    due : costs.TimerKey → Price costs.Effect
    due t = if_price (costs.is_group_in c t.0) (costs.timer_entry s.service s.flow t)

    one : (t : costs.TimerKey) → Agrees s 4 (inputs.timer_due (own s c) (costs.is_group_in c) t) (due t)
    one t =
        agrees_if s 4 (costs.is_group_in c t.0) ((own s c).dealt_with (group_ref t.0) event.TimerFired (Sure (Some (value.Int t.1))))
        (costs.timer_entry s.service s.flow t) (λ e. waiting s c here (group_ref t.0) event.TimerFired (Sure (Some (value.Int t.1))) refl)

-- Streams, and content that arrives

stream_agrees : {A : Type 0} (s : Setting A) (c : Config) → reached s.flow c ≡ true → (p : Fixed) → Agrees s 4 (inputs.stream_told (own s c) p) (if_price (is_stream p.class) (costs.entry s.service s.flow p.key event.StreamEvent Unsure))
stream_agrees s c here p =
    agrees_if s 4 (is_stream p.class) ((own s c).dealt_with p.key event.StreamEvent Unsure) (costs.entry s.service s.flow p.key event.StreamEvent Unsure)
    (λ e. waiting s c here p.key event.StreamEvent Unsure refl)

streams_agree : {A : Type 0} (s : Setting A) (c : Config) → reached s.flow c ≡ true → Agrees s 4 (sum_price (inputs.stream_told (own s c)) (present s.service c)) (sum_price (λ (p : Fixed). if_price (is_stream p.class) (costs.entry s.service s.flow p.key event.StreamEvent Unsure)) (present s.service c))
streams_agree s c here =
    agrees_sum s 4 (inputs.stream_told (own s c)) (λ (p : Fixed). if_price (is_stream p.class) (costs.entry s.service s.flow p.key event.StreamEvent Unsure))
    (present s.service c) (λ p there. stream_agrees s c here p)

-- what an object costs that can wait for a file
abbrev content_of : {A : Type 0} → Setting A → Fixed → Option Fixed → Price costs.Effect
content_of s p o =
    if_price (costs.is_reader (option_map (λ (q : Fixed). q.class) o)) (costs.entry s.service s.flow p.key event.ContentAvailable (Sure None))

content_agrees : {A : Type 0} (s : Setting A) (c : Config) → reached s.flow c ≡ true → (p : Fixed) → Agrees s 4 (inputs.content_told (own s c) p) (content_of s p (part_at p.key (present s.service c)))
content_agrees {A} s c here p = by (part_at p.key (present s.service c))
  where
    by : (o : Option Fixed) → Agrees s 4 (if_price (inputs.reads o) ((own s c).dealt_with p.key event.ContentAvailable (Sure None))) (content_of s p o)
    by None = agrees_nothing s 4
    by (Some q) =
        agrees_if s 4 (has_content q.class) ((own s c).dealt_with p.key event.ContentAvailable (Sure None))
        (costs.entry s.service s.flow p.key event.ContentAvailable (Sure None)) (λ e. waiting s c here p.key event.ContentAvailable (Sure None) refl)

contents_agree : {A : Type 0} (s : Setting A) (c : Config) → reached s.flow c ≡ true → Agrees s 4 (sum_price (inputs.content_told (own s c)) (present s.service c)) (sum_price (λ (p : Fixed). content_of s p (part_at p.key (present s.service c))) (present s.service c))
contents_agree s c here =
    agrees_sum s 4 (inputs.content_told (own s c)) (λ (p : Fixed). content_of s p (part_at p.key (present s.service c))) (present s.service c)
    (λ p there. content_agrees s c here p)

-- a transition that waits for a scene
scene_change_agrees : {A : Type 0} (s : Setting A) (c : Config) → reached s.flow c ≡ true → (g : List ℕ) → Agrees s 6 (inputs.scene_change (numbered_service s c) g) (costs.scene_change s.service s.flow c g)
scene_change_agrees s c here g =
    agrees_plus s 6 ((numbered_service s c).leave false) ((numbered_service s c).exchange g) (costs.leaves s.service s.flow c false) (costs.exchange s.service s.flow c g)
    (leaving s c here false) (exchange_agrees s c g)

-- All kinds

-- one step, and what comes of it
begun : {A : Type 0} (s : Setting A) (n : ℕ) (p : Price CostNode) (q : Price costs.Effect) → Agrees s n p q → Agrees s n (Plus One p) (Plus One q)
begun s n p q a = agrees_plus s n One p One q (agrees_one s n) a

pub taken_agrees : {A : Type 0} (s : Setting A) (c : Config) → reached s.flow c ≡ true → has_groups s.service c ≡ true → (k : InputKind) → Agrees s 6 (taken_price s.service s.flow s.heard c k) (takes s.service s.flow c k)
taken_agrees s c here groups kind.Start = agrees_node s 6 (Enter c) here (omega arith)
taken_agrees s c here groups kind.Key =
    begun s 6 (Most (heard_key s.heard c c.scene) (most_price (inputs.pressed (own s c)) (present s.service c)))
    (Most (costs.heard_key s.service c) (most_price (λ (p : Fixed). costs.pressed s.service s.flow c p.key p.class) (present s.service c)))
    (agrees_most s 6 (heard_key s.heard c c.scene) (most_price (inputs.pressed (own s c)) (present s.service c))
    (costs.heard_key s.service c) (most_price (λ (p : Fixed). costs.pressed s.service s.flow c p.key p.class) (present s.service c))
    (keys_heard s c here (and_right (is_there (group_ref c.app) (present s.service c)) (scene_there s.service c) groups)) (all_pressed s c here))
taken_agrees s c here groups kind.Tick =
    agrees_wider s 4 6 (taken_price s.service s.flow s.heard c kind.Tick) (takes s.service s.flow c kind.Tick) (omega arith)
    (begun s 4 (sum_price (inputs.timer_due (own s c) (costs.is_group_in c)) (every_timer s.service s.flow))
    (sum_price (costs.timer_entry s.service s.flow) (costs.timers s.service s.flow c)) (timers_agree s c here))
taken_agrees s c here groups kind.Stream =
    agrees_wider s 4 6 (taken_price s.service s.flow s.heard c kind.Stream) (takes s.service s.flow c kind.Stream) (omega arith)
    (begun s 4 (sum_price (inputs.stream_told (own s c)) (present s.service c))
    (sum_price (λ (p : Fixed). if_price (is_stream p.class) (costs.entry s.service s.flow p.key event.StreamEvent Unsure)) (present s.service c))
    (streams_agree s c here))
taken_agrees s c here groups kind.Engine =
    begun s 6 (fired_of c (group_ref c.app) event.EngineEvent (s.heard (group_ref c.app) event.EngineEvent))
    (costs.fired s.service c (group_ref c.app) event.EngineEvent Unsure)
    (group_fired s c here c.app event.EngineEvent (and_left (is_there (group_ref c.app) (present s.service c)) (scene_there s.service c) groups)
    (s.heard (group_ref c.app) event.EngineEvent) refl)
taken_agrees s c here groups kind.Arrive =
    begun s 6 (Most contents changes) (Most contents_of changes_of)
    (agrees_most s 6 contents changes contents_of changes_of
    (agrees_wider s 4 6 contents contents_of (omega arith) (contents_agree s c here))
    (agrees_largest s 6 (inputs.scene_change (numbered_service s c)) (costs.scene_change s.service s.flow c) (costs.late_scenes s.service s.flow c) (λ g there. scene_change_agrees s c here g)))
  where
    contents : Price CostNode
    contents = sum_price (inputs.content_told (own s c)) (present s.service c)

    contents_of : Price costs.Effect
    contents_of = sum_price (λ (p : Fixed). content_of s p (part_at p.key (present s.service c))) (present s.service c)

    changes : Price CostNode
    changes = most_price (inputs.scene_change (numbered_service s c)) (costs.late_scenes s.service s.flow c)

    changes_of : Price costs.Effect
    changes_of = most_price (costs.scene_change s.service s.flow c) (costs.late_scenes s.service s.flow c)
