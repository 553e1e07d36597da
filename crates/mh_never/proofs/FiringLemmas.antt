-- What puts none but effects of a set to work fires no link whose effect is not of the set, unless that has no action.
use Rattle.std.specs.Prelude.{◌≡◌, ◌≤◌, ◌<◌, ◌⊎◌, ℕ, ◌+◌, Bool, true, false, not, if◌then◌else◌, List, [], ◌∷◌, filter, slice_get, Option, Some}
use Rattle.std.specs.Option.{option_map_or}
use Rattle.std.proofs.Common.{arith, inl, inr, refl, ap, sym, subst}
use Rattle.std.proofs.Math.Nat.{le-max_left, le-max_right}
use Rattle.mh_base.specs.Event.{is_sync}
use Rattle.mh_base.specs.declared.event.EventType.{EventType}
use Rattle.mh_base.specs.declared.event.EventType.TheVariants as event
use Rattle.mh_base.specs.declared.obj_ref.ObjRef.{ObjRef}
use Rattle.mh_base.specs.declared.value.Value.{Value}
use Rattle.mh_model.specs.declared.act.Act.{Act}
use Rattle.mh_model.specs.declared.config.Config.{Config}
use Rattle.mh_model.specs.declared.event.Event.{Event}
use Rattle.mh_model.specs.declared.input.Input.{Input}
use Rattle.mh_model.specs.declared.input.Input.TheVariants as input
use Rattle.mh_model.specs.declared.input.Waiting.TheVariants as waiting
use Rattle.mh_model.specs.declared.item.Item.{Item}
use Rattle.mh_model.specs.declared.item.Item.TheVariants as item
use Rattle.mh_model.specs.declared.object.Fixed.{Fixed}
use Rattle.mh_model.specs.declared.object.Object.{Object}
use Rattle.mh_model.specs.Configuration.{present}
use Rattle.mh_model.specs.Items.{matches}
use Rattle.mh_model.specs.Reference.{group_ref, same_ref}
use Rattle.mh_model.specs.Service.{Service, is_there, parts}
use Rattle.mh_model.specs.State.{State, all}
use Rattle.mh_model.specs.Step.{engine_event, is_empty, key_event}
use Rattle.mh_model.proofs.ListLemmas.{and_left, and_right, some_same}
use Rattle.mh_laws.specs.Budget.{IsAccepted}
use Rattle.mh_laws.specs.Costs.{Costing, Effect, act, acts_price, can_hear, done_to, effect, effect_at, emit, entry, fired, fired_if_there, heard_by, heard_key, input_price, item_price, link_effect, named_data, targets}
use Rattle.mh_laws.specs.Each.{Among}
use Rattle.mh_laws.specs.Flow.{Flow, reached}
use Rattle.mh_laws.specs.Layers.{IsOn, costs}
use Rattle.mh_laws.specs.Price.{Price, Nothing, One, Node, Plus, Most, Nodes, if_price, most_price, worth}
use Rattle.mh_laws.specs.Safe.{IsSafeBy, config_of, has_origin}
use Rattle.mh_laws.specs.Ways.{Sure, Unsure}
use Rattle.mh_laws.specs.Weighing.{Weights}
use Rattle.mh_laws.proofs.EachLemmas.{among_all, among_filtered, each_among}
use Rattle.mh_laws.proofs.FiredLemmas.{fired_unsure, matching_hears, third}
use Rattle.mh_laws.proofs.LayerLemmas.{layered_covers}
use Rattle.mh_laws.proofs.NodeLemmas.{config_among, hearing_active, is_on}
use Rattle.mh_laws.proofs.PriceLemmas.{among_most, le_same, le_trans, most_at_most, nodes_map, worth_same}
use Rattle.mh_laws.proofs.ReadyLemmas.{first_item}
use Rattle.mh_laws.proofs.SetLemmas.{same_itself}
use Rattle.mh_laws.proofs.StateLemmas.{group_there, parts_present}
use Rattle.mh_never.specs.Firing.{FiresLiving, HoldsOfNext, fires, has_action}
use Rattle.mh_never.specs.Never.{AllPutLiving, ItemsPutLiving, Living, PutsLiving, WaitingPutsLiving, effect_of}

-- What prices count

-- what is counted in the largest of some is counted in each
pub nodes_each_most : {X : Type 0} (P : Effect → Type 0) (g : X → Price Effect) (xs : List X) (x : X) → Nodes P (most_price g xs) → Among xs x → Nodes P (g x)
nodes_each_most P g [] x h there = absurd cc
nodes_each_most {X} P g (y ∷ xs) x h (inl same) = subst (λ (z : X). Nodes P (g z)) same h.0
nodes_each_most P g (y ∷ xs) x h (inr more) = nodes_each_most P g xs x h.1 more

pub light_nodes : (f : Costing) (n : ℕ) (p : Price Effect) → worth f p < n → Nodes (λ y. f y < n) p
light_nodes f n Nothing h = tt
light_nodes f n One h = tt
light_nodes f n (Node y) h = h
light_nodes f n (Plus p q) h = (light_nodes f n p (first _ _ _ h), light_nodes f n q (second _ _ _ h))
  where
    first : (a b n : ℕ) → a + b < n → a < n
    first a b n h = omega (arith, h)

    second : (a b n : ℕ) → a + b < n → b < n
    second a b n h = omega (arith, h)
light_nodes f n (Most p q) h = (light_nodes f n p (less _ _ _ (le-max_left (worth f p) (worth f q)) h), light_nodes f n q (less _ _ _ (le-max_right (worth f p) (worth f q)) h))
  where
    less : (a b n : ℕ) → a ≤ b → b < n → a < n
    less a b n h k = omega (arith, h, k)

if_living : (g : Costing) (lives : Living) (b : Bool) (p : Price Effect) → b ≡ true → PutsLiving g lives (if_price b p) → PutsLiving g lives p
if_living g lives true p e h = h
if_living g lives false p e h = absurd cc

-- the effect of each link that hears the event is counted
heard_node : (P : Effect → Type 0) (c : Config) (e : Event) (ps : List Fixed) (p : Fixed) → Nodes P (heard_by c e ps) → Among ps p → can_hear e p ≡ true → P (effect_of c p link_effect)
heard_node P c e [] p h there hears = absurd cc
heard_node P c e (q ∷ ps) p h (inl same) hears = subst (λ (z : Fixed). P (effect_of c z link_effect)) same (own (can_hear e q) (subst (λ (z : Fixed). can_hear e z ≡ true) (sym same) hears) h.0)
  where
    own : (b : Bool) → b ≡ true → Nodes P (if_price b (effect c link_effect q)) → P (effect_of c q link_effect)
    own true t k = k
    own false t k = absurd cc
heard_node P c e (q ∷ ps) p h (inr more) hears = heard_node P c e ps p h.1 more hears

-- DATA. What is counted of an event whose data is not known is counted whatever its data.

-- where effects of the set cost nothing
abbrev others_cost : Costing → Living → Costing
others_cost g lives y = if lives y then 0 else g y

abbrev others_weigh : Costing → Living → Weights
others_weigh g lives = record { cost = others_cost g lives; mark = λ c a. 0; wakes = λ r. true; may = λ e. true }

living_free : (g : Costing) (lives : Living) (y : Effect) → (lives y ≡ true) ⊎ (g y ≡ 0) → others_cost g lives y ≡ 0
living_free g lives y h = by (lives y) h
  where
    by : (b : Bool) → (b ≡ true) ⊎ (g y ≡ 0) → (if b then 0 else g y) ≡ 0
    by true h = refl
    by false (inl h) = absurd cc
    by false (inr h) = h

free_living : (g : Costing) (lives : Living) (y : Effect) → others_cost g lives y < 1 → (lives y ≡ true) ⊎ (g y ≡ 0)
free_living g lives y h = by (lives y) h
  where
    by : (b : Bool) → (if b then 0 else g y) < 1 → (b ≡ true) ⊎ (g y ≡ 0)
    by true h = inl refl
    by false h = inr (omega (arith, h))

abbrev free : Costing
free y = 0

-- what is heard counts nothing but effects
heard_free : (c : Config) (e : Event) (ps : List Fixed) → worth free (heard_by c e ps) ≤ 0
heard_free c e [] = le_same 0
heard_free c e (p ∷ ps) = both _ _ (own (can_hear e p)) (heard_free c e ps)
  where
    own : (b : Bool) → worth free (if_price b (effect c link_effect p)) ≤ 0
    own true = le_same 0
    own false = le_same 0

    both : (a b : ℕ) → a ≤ 0 → b ≤ 0 → a + b ≤ 0
    both a b h k = omega (arith, h, k)

known_living : (v : Service) (c : Config) (r : ObjRef) (kind : EventType) (d : Option Value) (g : Costing) (lives : Living) → PutsLiving g lives (fired v c r kind Unsure) → PutsLiving g lives (fired v c r kind (Sure d))
known_living v c r kind d g lives h =
    nodes_map (λ y. others_cost g lives y < 1) (λ y. (lives y ≡ true) ⊎ (g y ≡ 0)) (λ y less. free_living g lives y less) (fired v c r kind (Sure d))
    (light_nodes (others_cost g lives) 1 (fired v c r kind (Sure d)) (least _ _ _ (fired_unsure v (others_weigh g lives) c r kind d) same none))
  where
    same : worth (others_cost g lives) (fired v c r kind Unsure) ≡ worth free (fired v c r kind Unsure)
    same = worth_same (others_cost g lives) free (fired v c r kind Unsure) (nodes_map (λ y. (lives y ≡ true) ⊎ (g y ≡ 0)) (λ y. others_cost g lives y ≡ 0) (λ y k. living_free g lives y k) (fired v c r kind Unsure) h)

    none : worth free (fired v c r kind Unsure) ≤ 0
    none = most_at_most free (λ m. heard_by c (record { source = r; kind = kind; «data» = m }) (present v c)) (named_data (present v c)) 0 (λ m k. heard_free c (record { source = r; kind = kind; «data» = m }) (present v c))

    least : (a b d : ℕ) → a ≤ b → b ≡ d → d ≤ 0 → a < 1
    least a b d h e k = omega (arith, h, e, k)

-- EFFECTS. An effect that costs nothing has no action.

pub one_at_least : (v : Service) (w : Flow) (g : Costing) (c : Config) (a : Act) → 1 ≤ worth g (act v w c a)
one_at_least v w g c a = more (worth g (most_price (done_to v w c a.name a.arguments) (targets w c a.target)))
  where
    more : (n : ℕ) → 1 ≤ 1 + n
    more n = omega arith

-- what an effect's actions come to is no more than it costs
pub effect_whole : (most : ℕ) (v : Service) (k : IsAccepted most v) (c : Config) (p : Fixed) (n : ℕ) → Among (present v c) p → IsOn v k.flow (effect_of c p n) → worth (costs v k.flow k.rank) (acts_price v k.flow c (effect_at p n)) ≤ costs v k.flow k.rank (effect_of c p n)
effect_whole most v k c p n there on =
    le_trans _ _ _
    (among_most (costs v k.flow k.rank) (λ (z : Fixed). acts_price v k.flow c (effect_at z n)) (filter (λ (z : Fixed). same_ref p.key z.key) (present v c)) p
    (among_filtered (λ (z : Fixed). same_ref p.key z.key) (present v c) p (same_itself p.key) there))
    (layered_covers v k.flow k.rank (k.acceptable).service k.layering (effect_of c p n) on)

free_idle : (most : ℕ) (v : Service) (k : IsAccepted most v) (c : Config) (p : Fixed) → Among (present v c) p → IsOn v k.flow (effect_of c p link_effect) → costs v k.flow k.rank (effect_of c p link_effect) ≡ 0 → has_action p ≡ false
free_idle most v k c p there on none = by (effect_at p link_effect) (effect_whole most v k c p link_effect there on)
  where
    g : Costing
    g = costs v k.flow k.rank

    by : (e : List Act) → worth g (acts_price v k.flow c e) ≤ g (effect_of c p link_effect) → not (is_empty e) ≡ false
    by [] h = refl
    by (a ∷ e) h = absurd (more _ _ _ (one_at_least v k.flow g c a) h none)
      where
        more : (a b d : ℕ) → 1 ≤ a → a + b ≤ d → d ≡ 0 → ⊥
        more a b d h k e = absurd (omega (arith, h, k, e))

-- WHAT IS FIRED

fired_living : (most : ℕ) (v : Service) (k : IsAccepted most v) (lives : Living) (s : State) → IsSafeBy k.flow s → s.service ≡ v → (e : Event) → is_there e.source (present v (config_of s)) ≡ true → PutsLiving (costs v k.flow k.rank) lives (fired v (config_of s) e.source e.kind (Sure e.data)) → FiresLiving lives s e
fired_living most v k lives s safe serves e there h o own fires = by (heard_node (λ y. (lives y ≡ true) ⊎ (g y ≡ 0)) (config_of s) e (present v (config_of s)) o.fixed h here hears)
  where
    g : Costing
    g = costs v k.flow k.rank

    part_of : (os : List Object) → Among os o → Among (parts os) o.fixed
    part_of [] h = absurd cc
    part_of (x ∷ os) (inl same) = inl (ap (λ (y : Object). y.fixed) same)
    part_of (x ∷ os) (inr more) = inr (part_of os more)

    here : Among (present v (config_of s)) o.fixed
    here = subst (λ (x : Service). Among (present x (config_of s)) o.fixed) serves (subst (λ (ps : List Fixed). Among ps o.fixed) (parts_present s safe) (part_of (all s.objects) own))

    hears : can_hear e o.fixed ≡ true
    hears = matching_hears e o (and_left (matches e o) (has_action o.fixed) fires)

    on : IsOn v k.flow (effect_of (config_of s) o.fixed link_effect)
    on = is_on v k.flow (config_of s) o.fixed link_effect safe.among here (hearing_active e (present v (config_of s)) o.fixed there hears) (third o.fixed)

    never : (b : Bool) → b ≡ true → b ≡ false → ⊥
    never true h e = absurd cc
    never false h e = absurd cc

    by : (lives (effect_of (config_of s) o.fixed link_effect) ≡ true) ⊎ (g (effect_of (config_of s) o.fixed link_effect) ≡ 0) → lives (effect_of (config_of s) o.fixed link_effect) ≡ true
    by (inl h) = h
    by (inr h) = absurd (never (has_action o.fixed) (and_right (matches e o) (has_action o.fixed) fires) (free_idle most v k (config_of s) o.fixed here on h))

-- an event that waits may be taken here
entry_living : (v : Service) (w : Flow) (g : Costing) (lives : Living) (c : Config) (e : Event) → reached w c ≡ true → is_there e.source (present v c) ≡ true → PutsLiving g lives (entry v w e.source e.kind (Sure e.data)) → PutsLiving g lives (fired v c e.source e.kind (Sure e.data))
entry_living v w g lives c e among there h =
    if_living g lives (is_there e.source (present v c)) (fired v c e.source e.kind (Sure e.data)) there
    (nodes_each_most (λ y. (lives y ≡ true) ⊎ (g y ≡ 0)) (λ x. fired_if_there v x e.source e.kind (Sure e.data)) w.configs c h.1 (config_among w.configs c among))

emit_living : (v : Service) (w : Flow) (g : Costing) (lives : Living) (c : Config) (e : Event) → reached w c ≡ true → is_there e.source (present v c) ≡ true → PutsLiving g lives (emit v w c e.source e.kind (Sure e.data)) → PutsLiving g lives (fired v c e.source e.kind (Sure e.data))
emit_living v w g lives c e among there h = by (is_sync e.kind) h.1
  where
    by : (b : Bool) → PutsLiving g lives (if b then fired_if_there v c e.source e.kind (Sure e.data) else entry v w e.source e.kind (Sure e.data)) → PutsLiving g lives (fired v c e.source e.kind (Sure e.data))
    by true h = if_living g lives (is_there e.source (present v c)) (fired v c e.source e.kind (Sure e.data)) there h
    by false h = entry_living v w g lives c e among there h

first_living : (v : Service) (w : Flow) (g : Costing) (lives : Living) (c : Config) (is : List Item) (i : Item) → slice_get is 0 ≡ Some i → ItemsPutLiving v w g lives c is → PutsLiving g lives (item_price v w c i)
first_living v w g lives c [] i e h = absurd cc
first_living v w g lives c (j ∷ is) i e h = subst (λ (x : Item). PutsLiving g lives (item_price v w c x)) (some_same e) h.0

-- Where neither the work list, nor what waits, nor an input puts another effect to work, no event fires another link.
pub next_living : (most : ℕ) (v : Service) (k : IsAccepted most v) (lives : Living) (s : State) → IsSafeBy k.flow s → s.service ≡ v → AllPutLiving v k.flow (costs v k.flow k.rank) lives s → ((i : Input) → PutsLiving (costs v k.flow k.rank) lives (input_price v k.flow (config_of s) i)) → HoldsOfNext (FiresLiving lives s) s
next_living most v k lives s safe serves puts posts = record {
  work = λ e first. at e (origin e first) (emit_living v k.flow g lives c e safe.among (origin e first) (first_living v k.flow g lives c s.work (item.Emit e) first puts.work));
  queue = λ e waits. at e (waiting_origin e waits) (entry_living v k.flow g lives c e safe.among (waiting_origin e waits) (each_among (WaitingPutsLiving v k.flow g lives) s.queue (waiting.Event e) puts.queue waits));
  keys = λ x group scene hears. at (key_event x (group_ref group)) (here group (inr scene)) (known_living v c (group_ref group) event.UserInput (key_event x (group_ref group)).data g lives (keyed group scene (posts (input.Key x)).1.0));
  engine = λ n. at (engine_event n s.application) (here s.application (inl refl)) (known_living v c (group_ref s.application) event.EngineEvent (engine_event n s.application).data g lives (posts (input.Engine n)).1);
}
  where
    g : Costing
    g = costs v k.flow k.rank

    c : Config
    c = config_of s

    at : (e : Event) → is_there e.source (present v c) ≡ true → PutsLiving g lives (fired v c e.source e.kind (Sure e.data)) → FiresLiving lives s e
    at e there h = fired_living most v k lives s safe serves e there h

    served : (r : ObjRef) → is_there r (present s.service c) ≡ true → is_there r (present v c) ≡ true
    served r h = subst (λ (x : Service). is_there r (present x c) ≡ true) serves h

    origin : (e : Event) → slice_get s.work 0 ≡ Some (item.Emit e) → is_there e.source (present v c) ≡ true
    origin e first = served e.source (first_item s safe (item.Emit e) first)

    waiting_origin : (e : Event) → Among s.queue (waiting.Event e) → is_there e.source (present v c) ≡ true
    waiting_origin e waits = served e.source (among_all (has_origin (present s.service c)) s.queue (waiting.Event e) safe.queue waits)

    here : (group : List ℕ) → (group ≡ s.application) ⊎ (s.scene ≡ Some group) → is_there (group_ref group) (present v c) ≡ true
    here group h = served (group_ref group) (group_there s safe group h)

    keyed : (group : List ℕ) → s.scene ≡ Some group → PutsLiving g lives (heard_key v c) → PutsLiving g lives (fired v c (group_ref group) event.UserInput Unsure)
    keyed group scene h = subst (λ (m : Option (List ℕ)). PutsLiving g lives (option_map_or (λ x. fired v c (group_ref x) event.UserInput Unsure) m Nothing)) scene h
