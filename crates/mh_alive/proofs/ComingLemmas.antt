-- Which links hear what comes of which objects: what is told there is in the web of the service, and who hears it is put.
use Rattle.std.specs.Prelude.{◌≡◌, ◌⊎◌, ℕ, ◌==◌, Bool, true, false, ◌&&◌, ◌||◌, not, if◌then◌else◌, List, [], ◌∷◌, map, filter, Option, Some, None, unwrap_or, ℤ, refl}
use Rattle.std.specs.Cmp.Derive.{both_true}
use Rattle.std.specs.List.{find, list_any}
use Rattle.std.specs.Option.{option_map}
use Rattle.std.specs.Ordering.{int_eq}
use Rattle.std.specs.Str.{bytes_eq}
use Rattle.std.proofs.Common.{ap, sym, subst, inl, inr, ◌∙◌}
use Rattle.std.proofs.lemmas.Bool.Decides.{Decides-eqb, Decides-int_eq}
use Rattle.indexmap.specs.IndexSet.{insert_all}
use Rattle.mh_base.specs.declared.event.EventType.{EventType}
use Rattle.mh_base.specs.declared.event.EventType.TheVariants as event
use Rattle.mh_base.specs.declared.obj_ref.ObjRef.{ObjRef}
use Rattle.mh_base.specs.declared.value.Value.{Value}
use Rattle.mh_base.specs.declared.value.Value.TheVariants as value
use Rattle.mh_base.specs.Event.{event_of, number_of}
use Rattle.mh_group.specs.declared.attribute.Attribute.TheVariants as attribute
use Rattle.mh_group.specs.Table.{is_link}
use Rattle.mh_model.specs.declared.config.Config.{Config}
use Rattle.mh_model.specs.declared.object.Fixed.{Fixed}
use Rattle.mh_model.specs.Configuration.{present, scene_parts}
use Rattle.mh_model.specs.Items.{hears_data, hears_source, hears_type}
use Rattle.mh_model.specs.Property.{held, as_event, as_value}
use Rattle.mh_model.specs.Reference.{same_key}
use Rattle.mh_model.specs.Service.{Service, group_parts}
use Rattle.mh_model.proofs.ListLemmas.{and_left, and_right, some_same}
use Rattle.mh_model.proofs.ServiceLemmas.{same_ref-same}
use Rattle.mh_laws.specs.Costs.{can_hear, event_from, link_effect}
use Rattle.mh_laws.specs.Each.{Among}
use Rattle.mh_laws.specs.Flow.{Flow, reached}
use Rattle.mh_never.specs.Never.{Living}
use Rattle.mh_laws.specs.Ways.{Told, Sure, IsKnown}
use Rattle.mh_laws.proofs.EachLemmas.{among_either, among_filtered, among_joined, among_mapped}
use Rattle.mh_laws.proofs.NodeLemmas.{config_among}
use Rattle.mh_alive.specs.declared.tellings.Telling.{Telling}
use Rattle.mh_alive.specs.declared.tellings.SetTimer.{SetTimer}
use Rattle.mh_alive.specs.Alive.{Alive, IsAliveOf}
use Rattle.mh_alive.specs.Timers.{is_timed}
use Rattle.mh_alive.specs.Puts.{Web, comes_always, is_put, is_timer, may_come, may_hear, puts, puts_of, web}
use Rattle.mh_alive.specs.Tellings.{same_telling, same_timer, set_in, set_timers, telling, told, told_in}
use Rattle.mh_alive.proofs.RunLemmas.{key_itself}
use Rattle.mh_alive.proofs.SetLemmas.{or_first, or_second, put_there}

telling_itself : (x : Telling) → same_telling x x ≡ true
telling_itself x = both_true (key_itself x.at) ((Decides-eqb x.kind x.kind).1 refl)

pub timer_itself : (x : SetTimer) → same_timer x x ≡ true
timer_itself x = both_true (key_itself x.at) ((Decides-int_eq x.id x.id).1 refl)

-- types of events with one number are one

back : (t : EventType) → event_of (number_of t) ≡ Some t
back event.IsAvailable = refl
back _ = refl

pub one_kind : (t k : EventType) → (number_of t == number_of k) ≡ true → t ≡ k
one_kind t k e = some_same (sym (back t) ∙ ap event_of ((Decides-eqb (number_of t) (number_of k)).0 e) ∙ back k)

-- What comes

-- an event of this type comes of the object, for links with these data
abbrev pub Comes : Web → ObjRef → EventType → Told → Type 0
Comes x r kind t = (m d : Option Value) → IsKnown t m → hears_data d m ≡ true → may_come x r kind d ≡ true

pub always_comes : (x : Web) (r : ObjRef) (kind : EventType) (t : Told) → comes_always r kind ≡ true → Comes x r kind t
always_comes x r kind t e m d known hears =
    or_first (comes_always r kind || list_any (same_telling (telling r kind)) x.told) (is_timer kind && is_timed x.timers r d)
    (or_first (comes_always r kind) (list_any (same_telling (telling r kind)) x.told) e)

pub told_comes : (v : Service) (w : Flow) (c : Config) (r : ObjRef) (kind : EventType) (t : Told) → reached w c ≡ true → Among (told_in v w c) (telling r kind) → Comes (web v w) r kind t
told_comes v w c r kind t among there m d known hears =
    or_first (comes_always r kind || list_any (same_telling (telling r kind)) (web v w).told) (is_timer kind && is_timed (web v w).timers r d)
    (or_second (comes_always r kind) (list_any (same_telling (telling r kind)) (web v w).told)
    (put_there same_telling telling_itself [] (told v w) (telling r kind) (among_joined (told_in v w) w.configs c (telling r kind) (config_among w.configs c among) there)))

-- timers

abbrev timers_of : Service → Flow → List SetTimer
timers_of v w = insert_all same_timer [] (set_timers v w)

-- a timer that is told is among the keys
timer_key : (x : SetTimer) (ts : List SetTimer) → list_any (same_timer x) ts ≡ true → (y : SetTimer) × Among ts y × (same_timer x y ≡ true)
timer_key x [] h = absurd cc
timer_key x (y ∷ ts) h = by (same_timer x y) refl h (λ k. timer_key x ts k)
  where
    by : (b : Bool) → same_timer x y ≡ b → (b || list_any (same_timer x) ts) ≡ true → (list_any (same_timer x) ts ≡ true → (z : SetTimer) × Among ts z × (same_timer x z ≡ true)) → (z : SetTimer) × Among (y ∷ ts) z × (same_timer x z ≡ true)
    by true is h further = (y, inl refl, is)
    by false is h further = let more = further h in (more.0, inr more.1, more.2)

pub group_timed : (ts : List SetTimer) (x : SetTimer) → list_any (same_timer x) ts ≡ true → list_any (same_key x.at) (insert_all same_key [] (map (λ (t : SetTimer). t.at) ts)) ≡ true
group_timed ts x h =
    let y = timer_key x ts h in
    let same : x.at ≡ y.0.at = key_same x.at y.0.at (and_left (same_key x.at y.0.at) (int_eq x.id y.0.id) y.2) in
    subst (λ (r : ObjRef). list_any (same_key r) (insert_all same_key [] (map (λ (t : SetTimer). t.at) ts)) ≡ true) (sym same)
    (put_there same_key key_itself [] (map (λ (t : SetTimer). t.at) ts) y.0.at (among_mapped (λ (t : SetTimer). t.at) ts y.0 y.1))
  where
    key_same : (a b : ObjRef) → same_key a b ≡ true → a ≡ b
    key_same a b e = same_ref-same a b (both_true (and_right (a.number == b.number) (bytes_eq a.group b.group) e) (and_left (a.number == b.number) (bytes_eq a.group b.group) e))

pub timer_comes : (v : Service) (w : Flow) (c : Config) (x : SetTimer) → reached w c ≡ true → Among (set_in v w c) x → Comes (web v w) x.at event.TimerFired (Sure (Some (value.Int x.id)))
timer_comes v w c x among there m d known hears =
    or_second (comes_always x.at event.TimerFired || list_any (same_telling (telling x.at event.TimerFired)) (web v w).told) (is_timed (web v w).timers x.at d)
    (by d (subst (λ (n : Option Value). hears_data d n ≡ true) known hears))
  where
    set : list_any (same_timer x) (timers_of v w) ≡ true
    set = put_there same_timer timer_itself [] (set_timers v w) x (among_joined (set_in v w) w.configs c x (config_among w.configs c among) there)

    by : (d : Option Value) → hears_data d (Some (value.Int x.id)) ≡ true → is_timed (web v w).timers x.at d ≡ true
    by None h = group_timed (timers_of v w) x set
    by (Some (value.Int n)) h = subst (λ (k : ℤ). list_any (same_timer (record { at = x.at; id = k })) (timers_of v w) ≡ true) (sym ((Decides-int_eq n x.id).0 h)) set
    by (Some _) h = absurd cc

-- Links

abbrev pub source_of : Fixed → Option Value
source_of p = as_value (held attribute.EventSource p.properties)

abbrev pub type_of : Fixed → Option EventType
type_of p = as_event (held attribute.EventType p.properties)

abbrev pub data_of : Fixed → Option Value
data_of p = as_value (held attribute.EventData p.properties)

-- a link that hears what comes may be put to work
pub hears_put : (x : Web) (p : Fixed) (r : ObjRef) (kind : EventType) (t : Told) (m : Option Value) → Comes x r kind t → IsKnown t m → can_hear (event_from r kind m) p ≡ true → is_put x p ≡ true
hears_put x p r kind t m comes known h =
    let with_type = and_left (is_link p.class && hears_source (source_of p) r && hears_type (type_of p) kind) (hears_data (data_of p) m) h in
    let with_source = and_left (is_link p.class && hears_source (source_of p) r) (hears_type (type_of p) kind) with_type in
    both_true (and_left (is_link p.class) (hears_source (source_of p) r) with_source)
    (by (source_of p) (type_of p)
    (and_right (is_link p.class) (hears_source (source_of p) r) with_source)
    (and_right (is_link p.class && hears_source (source_of p) r) (hears_type (type_of p) kind) with_type))
  where
    data_heard : hears_data (data_of p) m ≡ true
    data_heard = and_right (is_link p.class && hears_source (source_of p) r && hears_type (type_of p) kind) (hears_data (data_of p) m) h

    may : may_come x r kind (data_of p) ≡ true
    may = comes m (data_of p) known data_heard

    by : (s : Option Value) (k : Option EventType) → hears_source s r ≡ true → hears_type k kind ≡ true → may_hear x s k (data_of p) ≡ true
    by (Some (value.Object q)) (Some k) e f =
        subst (λ (z : EventType). may_come x q z (data_of p) ≡ true) (sym (one_kind k kind f))
        (subst (λ (z : ObjRef). may_come x z kind (data_of p) ≡ true) (sym (same_ref-same q r e)) may)
    by (Some (value.Object q)) None e f = absurd cc
    by (Some (value.Bool b)) k e f = absurd cc
    by (Some (value.Int n)) k e f = absurd cc
    by (Some (value.Octets n)) k e f = absurd cc
    by (Some (value.Content n)) k e f = absurd cc
    by None k e f = absurd cc

-- what is present is in a group of the service

found_among : (p : (List ℕ × List Fixed) → Bool) (gs : List (List ℕ × List Fixed)) (q : Fixed) → Among (unwrap_or (option_map (λ e. e.1) (find p gs)) []) q → (g : List ℕ × List Fixed) × Among gs g × Among g.1 q
found_among p [] q h = absurd cc
found_among p (g ∷ gs) q h = by (p g) h (λ k. found_among p gs q k)
  where
    by : (b : Bool) → Among (unwrap_or (option_map (λ e. e.1) (if b then Some g else find p gs)) []) q → (Among (unwrap_or (option_map (λ e. e.1) (find p gs)) []) q → (x : List ℕ × List Fixed) × Among gs x × Among x.1 q) → (x : List ℕ × List Fixed) × Among (g ∷ gs) x × Among x.1 q
    by true h further = (g, inl refl, h)
    by false h further = let more = further h in (more.0, inr more.1, more.2)

pub grouped : (v : Service) (c : Config) (p : Fixed) → Among (present v c) p → (g : List ℕ × List Fixed) × Among v.groups g × Among g.1 p
grouped v c p h = by (among_either (group_parts v c.app) (scene_parts v c.scene) p h)
  where
    of_scene : (m : Option (List ℕ)) → Among (scene_parts v m) p → (g : List ℕ × List Fixed) × Among v.groups g × Among g.1 p
    of_scene None h = absurd cc
    of_scene (Some g) h = found_among (λ e. bytes_eq e.0 g) v.groups p h

    by : (Among (group_parts v c.app) p ⊎ Among (scene_parts v c.scene) p) → (g : List ℕ × List Fixed) × Among v.groups g × Among g.1 p
    by (inl h) = found_among (λ e. bytes_eq e.0 c.app) v.groups p h
    by (inr h) = of_scene c.scene h

-- The effects that may be put to work: all but those of links that are not

abbrev pub lives_in : Alive → Living
lives_in a y = not (y.number == link_effect) || list_any (same_key y.object) a.puts

pub link_lives : (v : Service) (w : Flow) (a : Alive) (c : Config) (p : Fixed) → IsAliveOf v w a → Among (present v c) p → is_put (web v w) p ≡ true
    → lives_in a (record { config = c; object = p.key; number = link_effect }) ≡ true
link_lives v w a c p is there put =
    let g = grouped v c p there in
    subst (λ (rs : List ObjRef). list_any (same_key p.key) rs ≡ true) (sym is.puts)
    (put_there same_key key_itself [] (puts v w) p.key
    (among_joined (λ (x : List ℕ × List Fixed). puts_of (web v w) x.1) v.groups g.0 p.key g.1
    (among_mapped (λ (q : Fixed). q.key) (filter (is_put (web v w)) g.0.1) p (among_filtered (is_put (web v w)) g.0.1 p put g.2))))
