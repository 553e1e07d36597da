-- Focus: what an action comes to by a flow counts an effect by a smaller one too, which has of sets only the object whose event
-- the effect waits for, and of configurations the effect's own and the one to which a transition leads.
use Rattle.std.specs.Prelude.{◌≡◌, ◌⊎◌, ℕ, ◌==◌, Bool, true, false, ◌&&◌, if◌then◌else◌, List, ◌∷◌, ◌++◌, Option, Some, refl}
use Rattle.std.specs.Cmp.Derive.{both_true}
use Rattle.std.specs.List.{list_any}
use Rattle.std.specs.Option.{option_map, option_map_or}
use Rattle.std.proofs.Common.{◌∙◌, inl, inr, ap, sym, subst}
use Rattle.std.proofs.lemmas.Bool.Decides.{Decides-eqb}
use Rattle.mh_base.specs.declared.obj_ref.ObjRef.{ObjRef}
use Rattle.mh_base.specs.declared.value.Kind.{Kind}
use Rattle.mh_base.specs.declared.event.EventType.{EventType}
use Rattle.mh_base.specs.Event.{is_sync}
use Rattle.mh_group.specs.declared.action_name.ActionName.{ActionName}
use Rattle.mh_group.specs.declared.attribute.Attribute.TheVariants as attribute
use Rattle.mh_group.specs.Table.{is_link, is_list_group}
use Rattle.mh_model.specs.declared.act.Act.{Act}
use Rattle.mh_model.specs.declared.act.Argument.{Argument}
use Rattle.mh_model.specs.declared.act.Argument.TheVariants as argument
use Rattle.mh_model.specs.declared.config.Config.{Config}
use Rattle.mh_model.specs.declared.event.Event.{Event}
use Rattle.mh_model.specs.declared.object.Fixed.{Fixed}
use Rattle.mh_model.specs.Configuration.{present, scene_parts}
use Rattle.mh_model.specs.Faults.{is_transition}
use Rattle.mh_model.specs.Items.{hears_data, hears_source, hears_type}
use Rattle.mh_model.specs.Property.{held, as_event, as_value}
use Rattle.mh_model.specs.Reference.{group_ref, same_key, same_ref}
use Rattle.mh_model.specs.Service.{Service, group_parts, is_there, part_at}
use Rattle.mh_model.proofs.ListLemmas.{and_left, and_right}
use Rattle.mh_laws.specs.Costs.{Effect, act, around, can_hear, done_to, effect, enter, entry, event_from, exchange, fired, fired_if_there, group_effect, heard_by, leaves, link_effect, lists, named_data, objects, on_close_down, on_start_up, scene_closes, targets}
use Rattle.mh_laws.specs.Each.{Among}
use Rattle.mh_laws.specs.Flow.{Flow, has, is_list_in, reached}
use Rattle.mh_laws.specs.Price.{Price, Nothing, One, Nodes, Plus, Most, sum_price, most_price, if_price, counted_in}
use Rattle.mh_laws.specs.Safe.{exchanged}
use Rattle.mh_laws.specs.Ways.{Told, Sure, Unsure}
use Rattle.mh_laws.proofs.EachLemmas.{among_either, among_left, among_right}
use Rattle.mh_laws.proofs.NodeLemmas.{config_among}
use Rattle.mh_laws.proofs.OnceLemmas.{holds_among}
use Rattle.mh_laws.proofs.PriceLemmas.{nodes_if, nodes_map, nodes_most, nodes_of, nodes_sum, of_nodes}
use Rattle.mh_laws.proofs.SetLemmas.{same_itself}
use Rattle.mh_prices.proofs.NearLemmas.{NearDone, NearLists, NearSets, NearViews, Passes, change_near, done_near, enter_near, leave_all_near, leave_scene_near}
use Rattle.mh_layers.specs.Arrows.{counts, same_effect}
use Rattle.mh_layers.specs.Reading.{same_setting}
use Rattle.mh_layers.proofs.CheapPriceLemmas.{counted_most, counted_sum}
use Rattle.mh_layers.proofs.HeardLemmas.{among_any, any_among}
use Rattle.mh_layers.proofs.ListeningLemmas.{tells_objects}
use Rattle.mh_layers.proofs.ReadingLemmas.{tells_settings}

-- What a price counts

effect_is : (x y : Effect) → same_effect x y ≡ true → x ≡ y
effect_is x y e =
    let first : (same_setting x.config y.config && same_key x.object y.object) ≡ true = and_left (same_setting x.config y.config && same_key x.object y.object) (x.number == y.number) e in
    let config : x.config ≡ y.config = tells_settings.one x.config y.config (and_left (same_setting x.config y.config) (same_key x.object y.object) first) in
    let object : x.object ≡ y.object = tells_objects.one x.object y.object (and_right (same_setting x.config y.config) (same_key x.object y.object) first) in
    let number : x.number ≡ y.number = (Decides-eqb x.number y.number).0 (and_right (same_setting x.config y.config && same_key x.object y.object) (x.number == y.number) e) in
    λ i. record { config = config i; object = object i; number = number i }

effect_itself : (x : Effect) → same_effect x x ≡ true
effect_itself x = both_true (both_true (tells_settings.itself x.config) (tells_objects.itself x.object)) ((Decides-eqb x.number x.number).1 refl)

pub counts_among : (y : Effect) (p : Price Effect) → counts y p ≡ true → Among (counted_in p) y
counts_among y p h =
    let found = any_among (same_effect y) (counted_in p) h in
    subst (λ (x : Effect). Among (counted_in p) x) (sym (effect_is y found.0 found.2)) found.1

pub among_counts : (y : Effect) (p : Price Effect) → Among (counted_in p) y → counts y p ≡ true
among_counts y p there = among_any (same_effect y) (counted_in p) y there (effect_itself y)

-- one of the list, whose price counts the effect
abbrev Puts : {X : Type 0} → (X → Price Effect) → List X → Effect → Type 0
Puts {X} f xs y = (x : X) × Among xs x × Among (counted_in (f x)) y

-- what a sum counts, and what the dearest of several do, one of them counts
from_sum : {X : Type 0} (f : X → Price Effect) (xs : List X) (y : Effect) → Among (counted_in (sum_price f xs)) y → Puts f xs y
from_sum f xs = of_nodes (Puts f xs) (sum_price f xs) (nodes_sum (Puts f xs) f xs (λ x own. nodes_of (Puts f xs) (f x) (λ y counted. (x, own, counted))))

from_most : {X : Type 0} (f : X → Price Effect) (xs : List X) (y : Effect) → Among (counted_in (most_price f xs)) y → Puts f xs y
from_most f xs = of_nodes (Puts f xs) (most_price f xs) (nodes_most (Puts f xs) f xs (λ x own. nodes_of (Puts f xs) (f x) (λ y counted. (x, own, counted))))

-- Where the one price counts the effect, the other does

record Follows (y : Effect) (p q : Price Effect) : Type 0 where
  counted : Among (counted_in p) y → Among (counted_in q) y

follow_itself : (y : Effect) (p : Price Effect) → Follows y p p
follow_itself y p = record { counted = λ there. there }

follow_joined : (y : Effect) (ps qs rs ss : List Effect) → (Among ps y → Among qs y) → (Among rs y → Among ss y) → Among ps y ⊎ Among rs y → Among (qs ++ ss) y
follow_joined y ps qs rs ss h k (inl own) = among_left qs ss y (h own)
follow_joined y ps qs rs ss h k (inr own) = among_right qs ss y (k own)

follow_plus : {y : Effect} {p q r s : Price Effect} → Follows y p q → Follows y r s → Follows y (Plus p r) (Plus q s)
follow_plus {y} {p} {q} {r} {s} h k = record {
  counted = λ there. follow_joined y (counted_in p) (counted_in q) (counted_in r) (counted_in s) h.counted k.counted (among_either (counted_in p) (counted_in r) y there);
}

follow_larger : {y : Effect} {p q r s : Price Effect} → Follows y p q → Follows y r s → Follows y (Most p r) (Most q s)
follow_larger {y} {p} {q} {r} {s} h k = record {
  counted = λ there. follow_joined y (counted_in p) (counted_in q) (counted_in r) (counted_in s) h.counted k.counted (among_either (counted_in p) (counted_in r) y there);
}

-- one step, and then this
follow_step : {y : Effect} {p q : Price Effect} → Follows y p q → Follows y (Plus One p) (Plus One q)
follow_step {y} h = follow_plus (follow_itself y One) h

-- what is counted under a condition
follow_if : {y : Effect} {p q : Price Effect} (a b : Bool) → (a ≡ true → b ≡ true) → Follows y p q → Follows y (if_price a p) (if_price b q)
follow_if false b follows h = record { counted = λ there. absurd cc }
follow_if true true follows h = h
follow_if true false follows h = let never : false ≡ true = follows refl in absurd cc

-- the same, where the condition is known
follow_where : {y : Effect} {p q : Price Effect} (a b : Bool) → (a ≡ true → b ≡ true) → (a ≡ true → Follows y p q) → Follows y (if_price a p) (if_price b q)
follow_where false b follows h = record { counted = λ there. absurd cc }
follow_where true b follows h = follow_if true b follows (h refl)

-- each that counts the effect is in the other list, and counts it there
abbrev Stays : {X : Type 0} → Effect → (X → Price Effect) → (X → Price Effect) → List X → List X → Type 0
Stays {X} y f g xs ys = (x : X) → Among xs x → Among (counted_in (f x)) y → Among ys x × Among (counted_in (g x)) y

follow_listed : {X : Type 0} (y : Effect) (f g : X → Price Effect) (xs ys : List X) → Stays y f g xs ys → Follows y (sum_price f xs) (sum_price g ys)
follow_listed y f g xs ys stays = record {
  counted = λ there. let from = from_sum f xs y there in let to = stays from.0 from.1 from.2 in counted_sum g ys from.0 y to.0 to.1;
}

follow_dearest : {X : Type 0} (y : Effect) (f g : X → Price Effect) (xs ys : List X) → Stays y f g xs ys → Follows y (most_price f xs) (most_price g ys)
follow_dearest y f g xs ys stays = record {
  counted = λ there. let from = from_most f xs y there in let to = stays from.0 from.1 from.2 in counted_most g ys from.0 y to.0 to.1;
}

-- Sources: an event puts to work only what waits for events of its source

-- a link that waits for events of this source
abbrev pub hears_from : ObjRef → Fixed → Bool
hears_from q p = is_link p.class && hears_source (as_value (held attribute.EventSource p.properties)) q

-- the effect's object is such
abbrev pub is_source : Service → Effect → ObjRef → Bool
is_source v y q = list_any (λ p. same_key y.object p.key && hears_from q p) (present v y.config)

abbrev IsFrom : Service → ObjRef → Effect → Type 0
IsFrom v q y = is_source v y q ≡ true

abbrev IsFired : Service → Config → ObjRef → Effect → Type 0
IsFired v c q y = (y.config ≡ c) × (is_source v y q ≡ true)

hearing_source : (e : Event) (p : Fixed) → can_hear e p ≡ true → hears_from e.source p ≡ true
hearing_source e p h = by (is_link p.class) (hears_source (as_value (held attribute.EventSource p.properties)) e.source) (hears_type (as_event (held attribute.EventType p.properties)) e.kind) (hears_data (as_value (held attribute.EventData p.properties)) e.data) h
  where
    by : (a b c d : Bool) → (a && b && c && d) ≡ true → (a && b) ≡ true
    by true true c d h = refl
    by true false c d h = absurd cc
    by false true c d h = absurd cc
    by false false c d h = absurd cc

heard_fired : (v : Service) (c : Config) (e : Event) → Nodes (IsFired v c e.source) (heard_by c e (present v c))
heard_fired v c e =
    nodes_sum (IsFired v c e.source) (λ (p : Fixed). if_price (can_hear e p) (effect c link_effect p)) (present v c)
    (λ p own. nodes_if (IsFired v c e.source) (can_hear e p) (effect c link_effect p)
    (λ hears. (
      refl,
      among_any (λ (x : Fixed). same_key p.key x.key && hears_from e.source x) (present v c) p own
          (both_true (tells_objects.itself p.key) (hearing_source e p hears)),
    )))

fired_fired : (v : Service) (c : Config) (r : ObjRef) (kind : EventType) (d : Told) → Nodes (IsFired v c r) (fired v c r kind d)
fired_fired v c r kind (Sure m) = heard_fired v c (event_from r kind m)
fired_fired v c r kind Unsure =
    nodes_most (IsFired v c r) (λ m. heard_by c (event_from r kind m) (present v c)) (named_data (present v c)) (λ m own. heard_fired v c (event_from r kind m))

there_fired : (v : Service) (c : Config) (r : ObjRef) (kind : EventType) (d : Told) → Nodes (IsFired v c r) (fired_if_there v c r kind d)
there_fired v c r kind d = nodes_if (IsFired v c r) (is_there r (present v c)) (fired v c r kind d) (λ there. fired_fired v c r kind d)

there_from : (v : Service) (c : Config) (r : ObjRef) (kind : EventType) (d : Told) → Nodes (IsFrom v r) (fired_if_there v c r kind d)
there_from v c r kind d = nodes_map (IsFired v c r) (IsFrom v r) (λ y is. is.1) (fired_if_there v c r kind d) (there_fired v c r kind d)

dealt_from : (v : Service) (w : Flow) (c : Config) (r : ObjRef) (kind : EventType) (d : Told) → Nodes (IsFrom v r) ((objects v w c).dealt_with r kind d)
dealt_from v w c r kind d = by (is_sync kind)
  where
    by : (b : Bool) → Nodes (IsFrom v r) (if b then fired_if_there v c r kind d else entry v w r kind d)
    by true = there_from v c r kind d
    by false = (tt, nodes_most (IsFrom v r) (λ x. fired_if_there v x r kind d) w.configs (λ x own. there_from v x r kind d))

-- What the smaller flow has

-- where the set of the first flow has what the effect waits for, that of the second has it
abbrev pub HasSources : Service → Flow → Flow → Effect → Config → ObjRef → Type 0
HasSources v w u y c r = (q : ObjRef) → is_source v y q ≡ true → has (w.sets c) r q ≡ true → has (u.sets c) r q ≡ true

-- the second flow has what the effect needs, where the action with these arguments is done to the object in this configuration
pub record Focuses (v : Service) (w u : Flow) (c : Config) (n : ActionName) (xs : List Argument) (t : ObjRef) (y : Effect) : Type 0 where
  -- the effect's own configuration, where an event that waits may be taken
  pub there : reached u y.config ≡ true
  -- the one to which a transition leads
  pub led : reached u (exchanged v c t.group) ≡ true
  -- lists of the configuration, and of that to which a transition leads, if it is reached
  pub items :
      (d : Config) → (d ≡ c) ⊎ ((is_transition n ≡ true) × (reached w d ≡ true) × (d ≡ exchanged v c t.group)) → (r : ObjRef) → is_list_in (present v d) r ≡ true → HasSources v w u y d r
  -- what the action is done to, whatever it is
  pub own : HasSources v w u y c t
  -- the source of an event that is sent, named by the first argument
  pub sent : (x : ObjRef) (k : Option Kind) (more : List Argument) → xs ≡ argument.Through x k ∷ more → HasSources v w u y c x

-- in one configuration, but for what the action itself names
record IsFocused (v : Service) (w u : Flow) (c : Config) (y : Effect) : Type 0 where
  there : reached u y.config ≡ true
  items : (r : ObjRef) → is_list_in (present v c) r ≡ true → HasSources v w u y c r

focused_here : {v : Service} {w u : Flow} {c : Config} {n : ActionName} {xs : List Argument} {t : ObjRef} {y : Effect} → Focuses v w u c n xs t y → IsFocused v w u c y
focused_here {v} {w} {u} {c} f = record { there = f.there; items = f.items c (inl refl) }

focused_led : {v : Service} {w u : Flow} {c : Config} {n : ActionName} {xs : List Argument} {t : ObjRef} {y : Effect} → Focuses v w u c n xs t y → is_transition n ≡ true → reached w (exchanged v c t.group) ≡ true → IsFocused v w u (exchanged v c t.group) y
focused_led {v} {w} {u} {c} {n} {xs} {t} f leads led = record { there = f.there; items = f.items (exchanged v c t.group) (inr (leads, led, refl)) }

-- Events

entry_follows : (v : Service) (w u : Flow) (y : Effect) → reached u y.config ≡ true → (r : ObjRef) (kind : EventType) (d : Told) → Follows y (entry v w r kind d) (entry v u r kind d)
entry_follows v w u y here r kind d =
    follow_step (follow_dearest y (λ (c : Config). fired_if_there v c r kind d) (λ (c : Config). fired_if_there v c r kind d) w.configs u.configs (λ c own counted. (stays c counted, counted)))
  where
    stays : (c : Config) → Among (counted_in (fired_if_there v c r kind d)) y → Among u.configs c
    stays c counted =
        let fired = of_nodes (IsFired v c r) (fired_if_there v c r kind d) (there_fired v c r kind d) y counted in
        subst (λ (x : Config). Among u.configs x) fired.0 (config_among u.configs y.config here)

dealt_follows : (v : Service) (w u : Flow) (y : Effect) → reached u y.config ≡ true → (c : Config) (r : ObjRef) (kind : EventType) (d : Told) → Follows y ((objects v w c).dealt_with r kind d) ((objects v u c).dealt_with r kind d)
dealt_follows v w u y here c r kind d = by (is_sync kind)
  where
    by : (b : Bool) → Follows y (if b then fired_if_there v c r kind d else entry v w r kind d) (if b then fired_if_there v c r kind d else entry v u r kind d)
    by true = follow_itself y (fired_if_there v c r kind d)
    by false = entry_follows v w u y here r kind d

-- Sets

-- of what a set has, only that is needed whose event the effect waits for
source_stays : (v : Service) (y : Effect) (f g : ObjRef → Price Effect) → ((q : ObjRef) → Nodes (IsFrom v q) (f q)) → ((q : ObjRef) → Follows y (f q) (g q)) → (rs ss : List ObjRef)
    → ((q : ObjRef) → is_source v y q ≡ true → list_any (same_ref q) rs ≡ true → list_any (same_ref q) ss ≡ true) → Stays y f g rs ss
source_stays v y f g from follows rs ss kept q own counted =
    let source = of_nodes (IsFrom v q) (f q) (from q) y counted in
    (holds_among ss q (kept q source (among_any (same_ref q) rs q own (same_itself q))), (follows q).counted counted)

-- Views: what an object itself emits is of links that wait for its events

abbrev FollowsAt : Service → Effect → ObjRef → Price Effect → Price Effect → Type 0
FollowsAt v y r p q = Follows y p q × Nodes (IsFrom v r) p

abbrev Keeps : Service → Effect → List ObjRef → List ObjRef → Type 0
Keeps v y rs ss = (q : ObjRef) → is_source v y q ≡ true → list_any (same_ref q) rs ≡ true → list_any (same_ref q) ss ≡ true

passes_at : (v : Service) (y : Effect) (r : ObjRef) → Passes (FollowsAt v y r)
passes_at v y r = record {
  nothing = (follow_itself y Nothing, tt);
  one = (follow_itself y One, tt);
  plus = λ p o q s h k. (follow_plus h.0 k.0, (h.1, k.1));
  most = λ p o q s h k. (follow_larger h.0 k.0, (h.1, k.1));
}

passes : (y : Effect) → Passes (Follows y)
passes y = record {
  nothing = follow_itself y Nothing;
  one = follow_itself y One;
  plus = λ p o q s h k. follow_plus h k;
  most = λ p o q s h k. follow_larger h k;
}

follow_sets : (v : Service) (y : Effect) → NearSets (FollowsAt v y) (Follows y) (Keeps v y)
follow_sets v y = record {
  sums = λ f g each rs ss kept. follow_listed y f g rs ss (source_stays v y f g (λ q. (each q).1) (λ q. (each q).0) rs ss kept);
  largest = λ f g each rs ss kept. follow_dearest y f g rs ss (source_stays v y f g (λ q. (each q).1) (λ q. (each q).0) rs ss kept);
}

views_follow : (v : Service) (w u : Flow) (c : Config) (y : Effect) → reached u y.config ≡ true → NearViews (FollowsAt v y) (Follows y) (objects v w c) (objects v u c)
views_follow v w u c y here = record {
  part = λ r. refl;
  dealt_with = λ r kind d. (dealt_follows v w u y here c r kind d, dealt_from v w c r kind d);
  slots = λ r p at other. follow_itself y ((objects v w c).slots p);
}

-- a list that is found is there
found_list : (ps : List Fixed) (r : ObjRef) (p : Fixed) → part_at r ps ≡ Some p → is_list_group p.class ≡ true → is_list_in ps r ≡ true
found_list ps r p e is = ap (λ (m : Option Fixed). option_map_or is_list_group (option_map (λ (x : Fixed). x.class) m) false) e ∙ is

lists_follow : (v : Service) (w u : Flow) (c : Config) (y : Effect) → IsFocused v w u c y → NearLists (FollowsAt v y) (Follows y) (Keeps v y) (lists v w c) (lists v u c)
lists_follow v w u c y f = record {
  view = views_follow v w u c y f.there;
  items = λ r p at listed. f.items r (found_list (present v c) r p at listed);
  change = λ r kept.
      change_near (FollowsAt v y) (Follows y) (Keeps v y) (passes_at v y) (passes y) (λ r p q h. h.0) (follow_sets v y)
      (objects v w c) (objects v u c) (views_follow v w u c y f.there) r kept;
}

-- Groups

enter_follows : (v : Service) (w u : Flow) (c : Config) (y : Effect) → IsFocused v w u c y → (g : List ℕ) → Follows y (enter v w c g) (enter v u c g)
enter_follows v w u c y f g =
    enter_near (FollowsAt v y) (Follows y) (Keeps v y) (passes_at v y) (passes y) (λ r p q h. h.0) (follow_sets v y)
    (lists v w c) (lists v u c) (lists_follow v w u c y f) (group_effect v c g on_start_up) (group_effect v c g on_start_up) (follow_itself y (group_effect v c g on_start_up))
    (group_ref g) (group_parts v g)

exchange_follows : (v : Service) (w u : Flow) (c : Config) (y : Effect) (g : List ℕ) → reached u (exchanged v c g) ≡ true → (reached w (exchanged v c g) ≡ true → IsFocused v w u (exchanged v c g) y) → Follows y (exchange v w c g) (exchange v u c g)
exchange_follows v w u c y g led f =
    follow_step (follow_where (reached w (exchanged v c g)) (reached u (exchanged v c g)) (λ e. led) (λ may. enter_follows v w u (exchanged v c g) y (f may) g))

leaves_follow : (v : Service) (w u : Flow) (c : Config) (y : Effect) → IsFocused v w u c y → (all : Bool) → Follows y (leaves v w c all) (leaves v u c all)
leaves_follow v w u c y f false =
    leave_scene_near (FollowsAt v y) (Follows y) (Keeps v y) (passes_at v y) (passes y) (λ r p q h. h.0) (follow_sets v y)
    (lists v w c) (lists v u c) (lists_follow v w u c y f) (scene_closes v c) (scene_closes v c) (follow_itself y (scene_closes v c)) (scene_parts v c.scene) (group_parts v c.app)
leaves_follow v w u c y f true =
    leave_all_near (FollowsAt v y) (Follows y) (Keeps v y) (passes_at v y) (passes y) (λ r p q h. h.0) (follow_sets v y)
    (lists v w c) (lists v u c) (lists_follow v w u c y f)
    (scene_closes v c) (group_effect v c c.app on_close_down) (scene_closes v c) (group_effect v c c.app on_close_down)
    (follow_itself y (scene_closes v c)) (follow_itself y (group_effect v c c.app on_close_down)) (scene_parts v c.scene) (group_parts v c.app)

-- Actions

done_follows : (v : Service) (w u : Flow) (c : Config) (n : ActionName) (xs : List Argument) (t : ObjRef) (y : Effect) → Focuses v w u c n xs t y → Follows y (done_to v w c n xs t) (done_to v u c n xs t)
done_follows v w u c n xs t y f =
    done_near (FollowsAt v y) (Follows y) (Keeps v y) (passes_at v y) (passes y) (λ r p q h. h.0) (follow_sets v y) (around v w c) (around v u c) n xs t near
  where
    near : NearDone (FollowsAt v y) (Follows y) (Keeps v y) (around v w c) (around v u c) n xs t
    near = record {
      lists = lists_follow v w u c y (focused_here f);
      leave = leaves_follow v w u c y (focused_here f);
      exchange = λ leads. exchange_follows v w u c y t.group f.led (λ may. focused_led f leads may);
      own = f.own;
      sent = f.sent;
    }

-- what the action comes to, done to the object, counts the effect by the smaller flow too
pub focused : (v : Service) (w u : Flow) (c : Config) (n : ActionName) (xs : List Argument) (t : ObjRef) (y : Effect) → Focuses v w u c n xs t y → counts y (done_to v w c n xs t) ≡ true → counts y (done_to v u c n xs t) ≡ true
focused v w u c n xs t y f h = among_counts y (done_to v u c n xs t) ((done_follows v w u c n xs t y f).counted (counts_among y (done_to v w c n xs t) h))

-- what counts where the action is done to one to which its target comes, the action counts
pub counts_put : (v : Service) (u : Flow) (c : Config) (a : Act) (t : ObjRef) (y : Effect) → Among (targets u c a.target) t → counts y (done_to v u c a.name a.arguments t) ≡ true → counts y (act v u c a) ≡ true
counts_put v u c a t y there h =
    among_counts y (act v u c a)
    (counted_most (done_to v u c a.name a.arguments) (targets u c a.target) t y there (counts_among y (done_to v u c a.name a.arguments t) h))

-- and what the action counts, it counts where it is done to one of these
pub counted_put : (v : Service) (w : Flow) (c : Config) (a : Act) (y : Effect) → counts y (act v w c a) ≡ true → (t : ObjRef) × Among (targets w c a.target) t × (counts y (done_to v w c a.name a.arguments t) ≡ true)
counted_put v w c a y h =
    let put = from_most (done_to v w c a.name a.arguments) (targets w c a.target) y (counts_among y (act v w c a) h) in
    (put.0, put.1, among_counts y (done_to v w c a.name a.arguments put.0) put.2)
