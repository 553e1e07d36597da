-- Events: of which effects their prices tell.
use Rattle.std.specs.Prelude.{◌≡◌, ℕ, Bool, true, false, ◌&&◌, ◌||◌, zero, suc, ◌+◌, ◌≤◌, ◌==◌, not, if◌then◌else◌, List, map, Option, Some, None, refl}
use Rattle.std.specs.List.{list_all, list_any}
use Rattle.std.specs.Option.{option_eq}
use Rattle.std.specs.Str.{bytes_eq}
use Rattle.std.specs.Cmp.Lexicographic.{nat_list_eq_equiv}
use Rattle.std.specs.Cmp.Derive.{both_true}
use Rattle.std.proofs.Common.{arith, ap, ◌∙◌, sym}
use Rattle.std.proofs.Math.Bool.{and-false, and-true, and_comm, or-true}
use Rattle.std.proofs.lemmas.Bool.Decides.{Decides-eqb}
use Rattle.std.proofs.lemmas.Cmp.{int_eq_equiv}
use Rattle.std.proofs.lemmas.Slice.Eq.{bytes_eq-Decides}
use Rattle.mh_base.specs.declared.event.EventType.{EventType}
use Rattle.mh_base.specs.declared.obj_ref.ObjRef.{ObjRef}
use Rattle.mh_base.specs.declared.value.Value.{Value}
use Rattle.mh_base.specs.declared.value.Value.TheVariants as value
use Rattle.mh_base.specs.Event.{is_sync}
use Rattle.mh_model.specs.declared.config.Config.{Config}
use Rattle.mh_model.specs.declared.object.Fixed.{Fixed}
use Rattle.mh_model.specs.Configuration.{present}
use Rattle.mh_model.specs.Items.{hears_data}
use Rattle.mh_model.specs.Reference.{same_key}
use Rattle.mh_model.specs.Service.{Service, is_there}
use Rattle.mh_model.specs.Variables.{same_value}
use Rattle.mh_model.proofs.ListLemmas.{and_left, and_right}
use Rattle.mh_model.proofs.ServiceLemmas.{same_ref-same}
use Rattle.mh_laws.specs.Costs.{Effect, can_hear, effect, entry, event_from, fired, fired_if_there, heard_by, first_slot, link_effect, named_data, objects}
use Rattle.mh_laws.specs.Flow.{Flow}
use Rattle.mh_laws.specs.Price.{if_price, most_price}
use Rattle.mh_laws.specs.Safe.{exchanged}
use Rattle.mh_laws.specs.Ways.{Told, Sure, Unsure}
use Rattle.mh_laws.proofs.SetLemmas.{same_itself}
use Rattle.mh_layers.specs.Arrows.{comes_to, number_by, same_effect}
use Rattle.mh_layers.specs.CostNodes.{data_of, waits_for}
use Rattle.mh_layers.specs.Reading.{same_setting}
use Rattle.mh_evidence.specs.Putting.{Asked, around_of, could_hear, effect_of, flow_of, is_heard, tells, there}
use Rattle.mh_evidence.proofs.AnyLemmas.{any_and, any_crossed, any_more, any_same, any_same_where, each_one}
use Rattle.mh_evidence.proofs.PutLemmas.{tells_if, tells_most, tells_sum}

-- Configurations that are the same

scene_is : (a b : Option (List ℕ)) → option_eq bytes_eq a b ≡ true → a ≡ b
scene_is None None h = refl
scene_is (Some g) (Some h) e = ap Some ((bytes_eq-Decides g h).0 e)
scene_is None (Some h) e = cc
scene_is (Some g) None e = cc

scene_itself : (a : Option (List ℕ)) → option_eq bytes_eq a a ≡ true
scene_itself None = refl
scene_itself (Some g) = nat_list_eq_equiv.refl g

pub setting_is : (c d : Config) → same_setting c d ≡ true → c ≡ d
setting_is c d h =
    let app : c.app ≡ d.app = (bytes_eq-Decides c.app d.app).0 (and_left (bytes_eq c.app d.app) (option_eq bytes_eq c.scene d.scene) h) in
    let scene : c.scene ≡ d.scene = scene_is c.scene d.scene (and_right (bytes_eq c.app d.app) (option_eq bytes_eq c.scene d.scene) h) in
    λ i. record { app = app i; scene = scene i }

pub setting_itself : (c : Config) → same_setting c c ≡ true
setting_itself c = both_true (nat_list_eq_equiv.refl c.app) (scene_itself c.scene)

pub key_is : (a b : ObjRef) → same_key a b ≡ true → a ≡ b
key_is a b h = same_ref-same a b (both_true (and_right (a.number == b.number) (bytes_eq a.group b.group) h) (and_left (a.number == b.number) (bytes_eq a.group b.group) h))

-- Links that hear an event

-- the effect is that of a link here
abbrev is_here : Effect → Config → Bool
is_here y c = same_setting y.config c && y.number == link_effect

-- and of this one
abbrev is_its : Effect → Fixed → Bool
is_its y p = same_key y.object p.key

heard_one : (s h k n : Bool) → (h && (s && k && n)) ≡ ((s && n) && (h && k))
heard_one true true k n = and_comm k n
heard_one true false k n = sym (and-false n)
heard_one false h k n = and-false h

heard_told : (y : Effect) (c : Config) (is : Fixed → Bool) (ps : List Fixed) → list_any (λ p. tells y (if_price (is p) (effect c link_effect p))) ps ≡ (is_here y c && list_any (λ p. is p && is_its y p) ps)
heard_told y c is ps =
    any_same (λ (p : Fixed). tells y (if_price (is p) (effect c link_effect p))) (λ (p : Fixed). is_here y c && (is p && is_its y p))
    (λ (p : Fixed). tells_if y (is p) (effect c link_effect p) ∙ heard_one (same_setting y.config c) (is p) (same_key y.object p.key) (y.number == link_effect)) ps
    ∙ any_and (is_here y c) (λ (p : Fixed). is p && is_its y p) ps

sure_told : (y : Effect) (c : Config) (r : ObjRef) (kind : EventType) (m : Option Value) (ps : List Fixed) → tells y (heard_by c (event_from r kind m) ps) ≡ (is_here y c && list_any (λ p. could_hear r kind (Sure m) p && is_its y p) ps)
sure_told y c r kind m ps =
    tells_sum y (λ (p : Fixed). if_price (can_hear (event_from r kind m) p) (effect c link_effect p)) ps
    ∙ heard_told y c (can_hear (event_from r kind m)) ps

-- of the data that links name each link hears some

value_itself : (x : Value) → same_value x x ≡ true
value_itself (value.Bool true) = refl
value_itself (value.Bool false) = refl
value_itself (value.Int n) = int_eq_equiv.refl n
value_itself (value.Octets os) = nat_list_eq_equiv.refl os
value_itself (value.Object r) = same_itself r
value_itself (value.Content g) = nat_list_eq_equiv.refl g

data_itself : (m : Option Value) → hears_data m m ≡ true
data_itself None = refl
data_itself (Some x) = value_itself x

abbrev hears_some : List (Option Value) → Fixed → Bool
hears_some ms p = list_any (hears_data (data_of p)) ms

all_hear : (ps : List Fixed) → list_all (hears_some (named_data ps)) ps ≡ true
all_hear ps =
    any_more (λ (p : Fixed) (m : Option Value). hears_data (data_of p) m) None (map data_of ps) ps
    (each_one (λ (p : Fixed) (m : Option Value). hears_data (data_of p) m) data_of (λ (p : Fixed). data_itself (data_of p)) ps)

data_apart : (w h k : Bool) → ((w && h) && k) ≡ ((w && k) && h)
data_apart true true k = sym (and-true k)
data_apart true false k = sym (and-false k)
data_apart false h k = refl

by_data : (y : Effect) (r : ObjRef) (kind : EventType) (ms : List (Option Value)) (p : Fixed) → hears_some ms p ≡ true → list_any (λ m. could_hear r kind (Sure m) p && is_its y p) ms ≡ (waits_for r kind p && is_its y p)
by_data y r kind ms p some =
    any_same (λ (m : Option Value). could_hear r kind (Sure m) p && is_its y p) (λ (m : Option Value). (waits_for r kind p && is_its y p) && hears_data (data_of p) m)
    (λ (m : Option Value). data_apart (waits_for r kind p) (hears_data (data_of p) m) (is_its y p)) ms
    ∙ any_and (waits_for r kind p && is_its y p) (hears_data (data_of p)) ms
    ∙ ap (λ (b : Bool). (waits_for r kind p && is_its y p) && b) some
    ∙ and-true (waits_for r kind p && is_its y p)

unsure_told : (y : Effect) (c : Config) (r : ObjRef) (kind : EventType) (ps : List Fixed) → tells y (most_price (λ m. heard_by c (event_from r kind m) ps) (named_data ps)) ≡ (is_here y c && list_any (λ p. waits_for r kind p && is_its y p) ps)
unsure_told y c r kind ps =
    tells_most y (λ (m : Option Value). heard_by c (event_from r kind m) ps) (named_data ps)
    ∙ any_same (λ (m : Option Value). tells y (heard_by c (event_from r kind m) ps)) (λ (m : Option Value). is_here y c && list_any (λ (p : Fixed). could_hear r kind (Sure m) p && is_its y p) ps)
    (λ (m : Option Value). sure_told y c r kind m ps) (named_data ps)
    ∙ any_and (is_here y c) (λ (m : Option Value). list_any (λ (p : Fixed). could_hear r kind (Sure m) p && is_its y p) ps) (named_data ps)
    ∙ ap (λ (b : Bool). is_here y c && b)
    (any_crossed (λ (m : Option Value) (p : Fixed). could_hear r kind (Sure m) p && is_its y p) (named_data ps) ps
    ∙ any_same_where (hears_some (named_data ps)) (λ (p : Fixed). list_any (λ (m : Option Value). could_hear r kind (Sure m) p && is_its y p) (named_data ps)) (λ (p : Fixed). waits_for r kind p && is_its y p)
    (λ (p : Fixed) some. by_data y r kind (named_data ps) p some) ps (all_hear ps))

fired_told : (v : Service) (y : Effect) (c : Config) (r : ObjRef) (kind : EventType) (d : Told) → tells y (fired v c r kind d) ≡ (is_here y c && list_any (λ p. could_hear r kind d p && is_its y p) (present v c))
fired_told v y c r kind (Sure m) = sure_told y c r kind m (present v c)
fired_told v y c r kind Unsure = unsure_told y c r kind (present v c)

taken_out : (a n b : Bool) → (a && (n && b)) ≡ (n && (a && b))
taken_out true n b = refl
taken_out false n b = sym (and-false n)

-- whether the event is heard by the link whose effect it is
pub heard_there : (v : Service) (y : Effect) (r : ObjRef) (kind : EventType) (d : Told) → tells y (fired_if_there v y.config r kind d) ≡ (y.number == link_effect && (is_there r (present v y.config) && list_any (λ p. could_hear r kind d p && is_its y p) (present v y.config)))
heard_there v y r kind d =
    tells_if y (is_there r (present v y.config)) (fired v y.config r kind d)
    ∙ ap (λ (b : Bool). is_there r (present v y.config) && b)
    (fired_told v y y.config r kind d
    ∙ ap (λ (b : Bool). (b && y.number == link_effect) && list_any (λ (p : Fixed). could_hear r kind d p && is_its y p) (present v y.config)) (setting_itself y.config))
    ∙ taken_out (is_there r (present v y.config)) (y.number == link_effect) (list_any (λ (p : Fixed). could_hear r kind d p && is_its y p) (present v y.config))

-- Wherever else the event is dealt with, the effect is not put to work

pub elsewhere : (v : Service) (y : Effect) (c : Config) (r : ObjRef) (kind : EventType) (d : Told) → tells y (fired_if_there v c r kind d) ≡ (same_setting y.config c && tells y (fired_if_there v y.config r kind d))
elsewhere v y c r kind d = by (same_setting y.config c) refl
  where
    by : (b : Bool) → same_setting y.config c ≡ b → tells y (fired_if_there v c r kind d) ≡ (b && tells y (fired_if_there v y.config r kind d))
    by true same = ap (λ (x : Config). tells y (fired_if_there v x r kind d)) (sym (setting_is y.config c same))
    by false other =
        tells_if y (is_there r (present v c)) (fired v c r kind d)
        ∙ ap (λ (b : Bool). is_there r (present v c) && b)
        (fired_told v y c r kind d ∙ ap (λ (b : Bool). (b && y.number == link_effect) && list_any (λ (p : Fixed). could_hear r kind d p && is_its y p) (present v c)) other)
        ∙ and-false (is_there r (present v c))

-- an event that waits may be taken where the effect is
entry_told : (v : Service) (w : Flow) (y : Effect) (r : ObjRef) (kind : EventType) (d : Told) → list_any (same_setting y.config) w.configs ≡ true → tells y (entry v w r kind d) ≡ tells y (fired_if_there v y.config r kind d)
entry_told v w y r kind d has =
    tells_most y (λ (c : Config). fired_if_there v c r kind d) w.configs
    ∙ any_same (λ (c : Config). tells y (fired_if_there v c r kind d)) (λ (c : Config). tells y (fired_if_there v y.config r kind d) && same_setting y.config c)
    (λ (c : Config). elsewhere v y c r kind d ∙ and_comm (same_setting y.config c) (tells y (fired_if_there v y.config r kind d))) w.configs
    ∙ any_and (tells y (fired_if_there v y.config r kind d)) (same_setting y.config) w.configs
    ∙ and_comm (tells y (fired_if_there v y.config r kind d)) (list_any (same_setting y.config) w.configs)
    ∙ ap (λ (b : Bool). b && tells y (fired_if_there v y.config r kind d)) has

dealt_told : (v : Service) (w : Flow) (y : Effect) (c : Config) (r : ObjRef) (kind : EventType) (d : Told) → list_any (same_setting y.config) w.configs ≡ true → tells y ((objects v w c).dealt_with r kind d) ≡ ((not (is_sync kind) || same_setting y.config c) && tells y (fired_if_there v y.config r kind d))
dealt_told v w y c r kind d has = by (is_sync kind)
  where
    by : (b : Bool) → tells y (if b then fired_if_there v c r kind d else entry v w r kind d) ≡ ((not b || same_setting y.config c) && tells y (fired_if_there v y.config r kind d))
    by true = elsewhere v y c r kind d
    by false = entry_told v w y r kind d has

-- Of an effect that is asked for

has_next : (a : Asked) → list_any (same_setting (effect_of a).config) (flow_of a).configs ≡ true
unfolding effect_of flow_of
has_next a =
    ap (λ (b : Bool). same_setting d a.arrow.cause.config || (b || list_any (same_setting d) led)) (setting_itself d) ∙ or-true (same_setting d a.arrow.cause.config)
  where
    d : Config
    d = a.next.cause.config

    led : List Config
    led = map (λ (r : ObjRef). exchanged a.service a.arrow.cause.config r.group) (comes_to a.arrow.held a.act.target)

heard_asked : (a : Asked) (r : ObjRef) (kind : EventType) (d : Told) → tells (effect_of a) (fired_if_there a.service (effect_of a).config r kind d) ≡ is_heard a r kind d
unfolding effect_of is_heard
heard_asked a r kind d = heard_there a.service (effect_of a) r kind d ∙ grouped (number_by a.arrow.by == link_effect) (is_there r (there a)) (list_any (λ (p : Fixed). could_hear r kind d p && same_key a.next.cause.at p.key) (there a))
  where
    grouped : (x y z : Bool) → (x && (y && z)) ≡ ((x && y) && z)
    grouped true y z = refl
    grouped false y z = refl

pub dealt_asked : (a : Asked) (r : ObjRef) (kind : EventType) (d : Told) → tells (effect_of a) ((around_of a).lists.view.dealt_with r kind d) ≡ ((not (is_sync kind) || same_setting a.next.cause.config a.config) && is_heard a r kind d)
unfolding effect_of
dealt_asked a r kind d =
    dealt_told a.service (flow_of a) (effect_of a) a.config r kind d (has_next a)
    ∙ ap (λ (b : Bool). (not (is_sync kind) || same_setting a.next.cause.config a.config) && b) (heard_asked a r kind d)

pub slot_is_no_link : (n : ℕ) → (first_slot + n == link_effect) ≡ false
slot_is_no_link n = apart (first_slot + n) (omega arith)
  where
    apart : (m : ℕ) → 3 ≤ m → (m == link_effect) ≡ false
    apart zero h = refl
    apart (suc zero) h = refl
    apart (suc (suc zero)) h = absurd (omega (arith, h))
    apart (suc (suc (suc m))) h = grind arith

-- One effect

pub same_is : (x y : Effect) → same_effect x y ≡ true → x ≡ y
same_is x y h =
    let front = and_left (same_setting x.config y.config && same_key x.object y.object) (x.number == y.number) h in
    let config : x.config ≡ y.config = setting_is x.config y.config (and_left (same_setting x.config y.config) (same_key x.object y.object) front) in
    let object : x.object ≡ y.object = key_is x.object y.object (and_right (same_setting x.config y.config) (same_key x.object y.object) front) in
    let number : x.number ≡ y.number = (Decides-eqb x.number y.number).0 (and_right (same_setting x.config y.config && same_key x.object y.object) (x.number == y.number) h) in
    λ i. record { config = config i; object = object i; number = number i }
