-- What an arrow grants: what is put stays, it is so by the flow, and it is all that the effect needs.
use Rattle.std.specs.Prelude.{◌≡◌, ◌⊎◌, Bool, true, false, ◌&&◌, if◌then◌else◌, List, [], ◌∷◌, ◌++◌, filter, map, Option, Some, None, refl}
use Rattle.std.specs.List.{list_any}
use Rattle.std.specs.Option.{option_map, option_map_or}
use Rattle.std.proofs.Common.{inl, inr, ap, ◌∙◌, sym, subst}
use Rattle.mh_base.specs.declared.obj_ref.ObjRef.{ObjRef}
use Rattle.mh_base.specs.declared.value.Value.{Value}
use Rattle.mh_base.specs.declared.value.Value.TheVariants as value
use Rattle.mh_group.specs.declared.attribute.Attribute.TheVariants as attribute
use Rattle.mh_group.specs.Table.{is_link, is_list_group}
use Rattle.mh_model.specs.declared.act.Act.{Act}
use Rattle.mh_model.specs.declared.act.Argument.{Argument}
use Rattle.mh_model.specs.declared.act.Argument.TheVariants as argument
use Rattle.mh_model.specs.declared.act.Target.{Target}
use Rattle.mh_model.specs.declared.act.Target.TheVariants as target
use Rattle.mh_model.specs.declared.config.Config.{Config}
use Rattle.mh_model.specs.declared.object.Fixed.{Fixed}
use Rattle.mh_model.specs.Configuration.{has_keys, is_service, present}
use Rattle.mh_model.specs.Faults.{is_transition}
use Rattle.mh_model.specs.Items.{hears_source}
use Rattle.mh_model.specs.Property.{held, as_reference, as_value}
use Rattle.mh_model.specs.Reference.{same_key, same_ref}
use Rattle.mh_model.specs.Service.{Service, part_at}
use Rattle.mh_model.proofs.ListLemmas.{and_left, and_right, some_same}
use Rattle.mh_model.proofs.ServiceLemmas.{same_ref-same}
use Rattle.mh_laws.specs.Costs.{Effect, targets}
use Rattle.mh_laws.specs.Each.{Among, Each}
use Rattle.mh_laws.specs.Flow.{Flow, Sets, has, is_list_in, reached}
use Rattle.mh_laws.specs.Safe.{exchanged}
use Rattle.mh_laws.proofs.EachLemmas.{among_filtered, among_left, among_mapped, among_right, each_joined}
use Rattle.mh_layers.specs.declared.arrows.arrow.Held.{Held}
use Rattle.mh_layers.specs.Arrows.{comes_to, held_by}
use Rattle.mh_layers.specs.Granting.{held_for, held_so, is_held_so, with_had, with_held, with_items, with_led, with_next, with_sent, with_source, with_target}
use Rattle.mh_layers.specs.Listening.{source_of}
use Rattle.mh_layers.proofs.FocusLemmas.{Focuses, HasSources, hears_from, is_source}
use Rattle.mh_layers.proofs.FoundLemmas.{present_found}
use Rattle.mh_layers.proofs.HeardLemmas.{among_any, any_among}
use Rattle.mh_layers.proofs.ListeningLemmas.{tells_objects}
use Rattle.mh_layers.proofs.MetLemmas.{found_among, reached_among, same_itself}

-- What is put

held_is : (r q : ObjRef) (h : Held) → is_held_so r q h ≡ true → h ≡ held_so r q
held_is r q h e =
    let of : r ≡ h.by = tells_objects.one r h.by (and_left (same_key r h.by) (same_key q h.at) e) in
    let to : q ≡ h.at = tells_objects.one q h.at (and_right (same_key r h.by) (same_key q h.at) e) in
    λ i. record { by = sym of i; at = sym to i }

-- what was held is held still, and what holds of all that was and of what is put holds of all
record Adds (P : Held → Type 0) (old new : List Held) : Type 0 where
  keeps : (h : Held) → Among old h → Among new h
  each : Each P old → Each P new

same_adds : (P : Held → Type 0) (hs : List Held) → Adds P hs hs
same_adds P hs = record { keeps = λ h there. there; each = λ all. all }

on_adds : (P : Held → Type 0) (a b c : List Held) → Adds P a b → Adds P b c → Adds P a c
on_adds P a b c f g = record { keeps = λ h there. g.keeps h (f.keeps h there); each = λ all. g.each (f.each all) }

held_adds : (P : Held → Type 0) (hs : List Held) (r q : ObjRef) → P (held_so r q) → Adds P hs (with_held hs r q)
held_adds P hs r q own = by (list_any (is_held_so r q) hs)
  where
    by : (b : Bool) → Adds P hs (if b then hs else hs ++ held_so r q ∷ [])
    by true = same_adds P hs
    by false = record {
      keeps = λ h there. among_left hs (held_so r q ∷ []) h there;
      each = λ all. each_joined P hs (held_so r q ∷ []) all (own, tt);
    }

had_adds : (P : Held → Type 0) (qs : List ObjRef) (hs : List Held) (r q : ObjRef) → (list_any (same_ref q) qs ≡ true → P (held_so r q)) → Adds P hs (with_had qs hs r q)
had_adds P qs hs r q own = by (list_any (same_ref q) qs) refl
  where
    by : (b : Bool) → list_any (same_ref q) qs ≡ b → Adds P hs (if b then with_held hs r q else hs)
    by true e = held_adds P hs r q (own e)
    by false e = same_adds P hs

item_adds : (P : Held → Type 0) (h : Sets) (p : Fixed) (hs : List Held) (q : ObjRef) → (has h p.key q ≡ true → P (held_so p.key q)) → Adds P hs (if is_list_group p.class then with_had (h p.key) hs p.key q else hs)
item_adds P h p hs q own = by (is_list_group p.class)
  where
    by : (b : Bool) → Adds P hs (if b then with_had (h p.key) hs p.key q else hs)
    by true = had_adds P (h p.key) hs p.key q own
    by false = same_adds P hs

items_adds : (P : Held → Type 0) (h : Sets) (ps : List Fixed) (hs : List Held) (q : ObjRef) → ((r : ObjRef) → has h r q ≡ true → P (held_so r q)) → Adds P hs (with_items h ps hs q)
items_adds P h [] hs q own = same_adds P hs
items_adds P h (p ∷ ps) hs q own =
    on_adds P hs (if is_list_group p.class then with_had (h p.key) hs p.key q else hs) (with_items h (p ∷ ps) hs q) (item_adds P h p hs q (own p.key))
    (items_adds P h ps (if is_list_group p.class then with_had (h p.key) hs p.key q else hs) q own)

sent_adds : (P : Held → Type 0) (h : Sets) (xs : List Argument) (hs : List Held) (q : ObjRef) → ((r : ObjRef) → has h r q ≡ true → P (held_so r q)) → Adds P hs (with_sent h xs hs q)
sent_adds P h (argument.Through x k ∷ more) hs q own = had_adds P (h x) hs x q (own x)
sent_adds P h _ hs q own = same_adds P hs

-- the configuration in which the action is done, or the one that it enters, done to this object
abbrev pub IsAt : Service → Config → Act → ObjRef → Config → Type 0
IsAt v c a t d = (d ≡ c) ⊎ ((is_transition a.name ≡ true) × (d ≡ exchanged v c t.group))

-- what holds of what the sets have there, where that is reached
abbrev Allows : Service → Flow → Config → Act → ObjRef → (Held → Type 0) → ObjRef → Type 0
Allows v w c a t P q = (d : Config) → IsAt v c a t d → reached w d ≡ true → (r : ObjRef) → has (w.sets d) r q ≡ true → P (held_so r q)

next_adds : (P : Held → Type 0) (v : Service) (w : Flow) (d : Config) (hs : List Held) (q : ObjRef) → (reached w d ≡ true → (r : ObjRef) → has (w.sets d) r q ≡ true → P (held_so r q)) → Adds P hs (with_next v w d hs q)
next_adds P v w d hs q own = by (reached w d) refl
  where
    by : (b : Bool) → reached w d ≡ b → Adds P hs (if b then with_items (w.sets d) (present v d) hs q else hs)
    by true e = items_adds P (w.sets d) (present v d) hs q (own e)
    by false e = same_adds P hs

led_adds : (P : Held → Type 0) (v : Service) (w : Flow) (c : Config) (a : Act) (t : ObjRef) (hs : List Held) (q : ObjRef) → Allows v w c a t P q → Adds P hs (with_led v w c a t hs q)
led_adds P v w c a t hs q own = by (is_transition a.name) refl
  where
    by : (b : Bool) → is_transition a.name ≡ b → Adds P hs (if b then with_next v w (exchanged v c t.group) hs q else hs)
    by true e = next_adds P v w (exchanged v c t.group) hs q (own (exchanged v c t.group) (inr (e, refl)))
    by false e = same_adds P hs

-- The steps of what is put

abbrev sent_put : Flow → Config → Act → List Held → ObjRef → List Held
sent_put w c a hs q = with_sent (w.sets c) a.arguments hs q

abbrev own_put : Flow → Config → Act → ObjRef → List Held → ObjRef → List Held
own_put w c a t hs q = with_had (w.sets c t) (sent_put w c a hs q) t q

abbrev lists_put : Service → Flow → Config → Act → ObjRef → List Held → ObjRef → List Held
lists_put v w c a t hs q = with_items (w.sets c) (present v c) (own_put w c a t hs q) q

abbrev all_put : Service → Flow → Config → Act → ObjRef → List Held → ObjRef → List Held
all_put v w c a t hs q = with_led v w c a t (lists_put v w c a t hs q) q

own_adds : (P : Held → Type 0) (v : Service) (w : Flow) (c : Config) (a : Act) (t : ObjRef) (hs : List Held) (q : ObjRef) → reached w c ≡ true → Allows v w c a t P q → Adds P (sent_put w c a hs q) (own_put w c a t hs q)
own_adds P v w c a t hs q here own = had_adds P (w.sets c t) (sent_put w c a hs q) t q (own c (inl refl) here t)

lists_adds : (P : Held → Type 0) (v : Service) (w : Flow) (c : Config) (a : Act) (t : ObjRef) (hs : List Held) (q : ObjRef) → reached w c ≡ true → Allows v w c a t P q → Adds P (own_put w c a t hs q) (lists_put v w c a t hs q)
lists_adds P v w c a t hs q here own = items_adds P (w.sets c) (present v c) (own_put w c a t hs q) q (own c (inl refl) here)

last_adds : (P : Held → Type 0) (v : Service) (w : Flow) (c : Config) (a : Act) (t : ObjRef) (hs : List Held) (q : ObjRef) → Allows v w c a t P q → Adds P (lists_put v w c a t hs q) (all_put v w c a t hs q)
last_adds P v w c a t hs q own = led_adds P v w c a t (lists_put v w c a t hs q) q own

behind_own : (P : Held → Type 0) (v : Service) (w : Flow) (c : Config) (a : Act) (t : ObjRef) (hs : List Held) (q : ObjRef) → reached w c ≡ true → Allows v w c a t P q → Adds P (own_put w c a t hs q) (all_put v w c a t hs q)
behind_own P v w c a t hs q here own =
    on_adds P (own_put w c a t hs q) (lists_put v w c a t hs q) (all_put v w c a t hs q) (lists_adds P v w c a t hs q here own) (last_adds P v w c a t hs q own)

behind_sent : (P : Held → Type 0) (v : Service) (w : Flow) (c : Config) (a : Act) (t : ObjRef) (hs : List Held) (q : ObjRef) → reached w c ≡ true → Allows v w c a t P q → Adds P (sent_put w c a hs q) (all_put v w c a t hs q)
behind_sent P v w c a t hs q here own =
    on_adds P (sent_put w c a hs q) (own_put w c a t hs q) (all_put v w c a t hs q) (own_adds P v w c a t hs q here own) (behind_own P v w c a t hs q here own)

all_adds : (P : Held → Type 0) (v : Service) (w : Flow) (c : Config) (a : Act) (t : ObjRef) (hs : List Held) (q : ObjRef) → reached w c ≡ true → Allows v w c a t P q → Adds P hs (all_put v w c a t hs q)
all_adds P v w c a t hs q here own =
    on_adds P hs (sent_put w c a hs q) (all_put v w c a t hs q) (sent_adds P (w.sets c) a.arguments hs q (own c (inl refl) here)) (behind_sent P v w c a t hs q here own)

-- nothing is asked of what is put
abbrev Any : Held → Type 0
Any h = Unit {0}

any_allowed : (v : Service) (w : Flow) (c : Config) (a : Act) (t : ObjRef) (q : ObjRef) → Allows v w c a t Any q
any_allowed v w c a t q d at here r e = tt

source_keeps : (v : Service) (w : Flow) (c : Config) (a : Act) (t : ObjRef) (o : Option ObjRef) (hs : List Held) → reached w c ≡ true → (h : Held) → Among hs h → Among (with_source v w c a t o hs) h
source_keeps v w c a t None hs here h there = there
source_keeps v w c a t (Some q) hs here h there = (all_adds Any v w c a t hs q here (any_allowed v w c a t q)).keeps h there

-- IT IS SO BY THE FLOW

abbrev pub IsHeldAt : Service → Flow → Config → Act → ObjRef → Held → Type 0
IsHeldAt v w c a t h = (d : Config) × IsAt v c a t d × (reached w d ≡ true) × (has (w.sets d) h.by h.at ≡ true)

target_granted : (v : Service) (w : Flow) (c : Config) (a : Act) → reached w c ≡ true → (x : Target) (t : ObjRef) → Among (targets w c x) t → Each (IsHeldAt v w c a t) (with_target x t)
target_granted v w c a here (target.Direct r) t there = tt
target_granted v w c a here (target.Through x) t there = ((c, inl refl, here, among_any (same_ref t) (w.sets c x) t there (same_itself t)), tt)

pub all_granted : (v : Service) (w : Flow) (c : Config) (a : Act) (t : ObjRef) (o : Option ObjRef) → reached w c ≡ true → Among (targets w c a.target) t → Each (IsHeldAt v w c a t) (held_for v w c a t o)
all_granted v w c a t None here there = target_granted v w c a here a.target t there
all_granted v w c a t (Some q) here there =
    (all_adds (IsHeldAt v w c a t) v w c a t (with_target a.target t) q here (λ d at may r e. (d, at, may, e))).each (target_granted v w c a here a.target t there)

-- IT IS ALL THAT IS NEEDED

-- what is put is there

held_there : (hs : List Held) (r q : ObjRef) → Among (with_held hs r q) (held_so r q)
held_there hs r q = by (list_any (is_held_so r q) hs) refl
  where
    by : (b : Bool) → list_any (is_held_so r q) hs ≡ b → Among (if b then hs else hs ++ held_so r q ∷ []) (held_so r q)
    by true e =
        let found = any_among (is_held_so r q) hs e in
        subst (λ (h : Held). Among hs h) (held_is r q found.0 found.2) found.1
    by false e = among_right hs (held_so r q ∷ []) (held_so r q) (inl refl)

had_there : (qs : List ObjRef) (hs : List Held) (r q : ObjRef) → list_any (same_ref q) qs ≡ true → Among (with_had qs hs r q) (held_so r q)
had_there qs hs r q e = subst (λ (b : Bool). Among (if b then with_held hs r q else hs) (held_so r q)) (sym e) (held_there hs r q)

item_there : (h : Sets) (p : Fixed) (hs : List Held) (q : ObjRef) → is_list_group p.class ≡ true → has h p.key q ≡ true → Among (if is_list_group p.class then with_had (h p.key) hs p.key q else hs) (held_so p.key q)
item_there h p hs q is e =
    subst (λ (b : Bool). Among (if b then with_had (h p.key) hs p.key q else hs) (held_so p.key q)) (sym is) (had_there (h p.key) hs p.key q e)

items_there : (h : Sets) (ps : List Fixed) (hs : List Held) (q : ObjRef) (p : Fixed) → Among ps p → is_list_group p.class ≡ true → has h p.key q ≡ true → Among (with_items h ps hs q) (held_so p.key q)
items_there h [] hs q p there is e = absurd cc
items_there h (z ∷ ps) hs q p (inl same) is e =
    subst (λ (x : Fixed). Among (with_items h (x ∷ ps) hs q) (held_so p.key q)) (sym same)
    ((items_adds Any h ps (if is_list_group p.class then with_had (h p.key) hs p.key q else hs) q (λ r f. tt)).keeps (held_so p.key q) (item_there h p hs q is e))
items_there h (z ∷ ps) hs q p (inr more) is e = items_there h ps (if is_list_group z.class then with_had (h z.key) hs z.key q else hs) q p more is e

-- a list that is there
abbrev HasList : List Fixed → ObjRef → Type 0
HasList ps r = (p : Fixed) × (r ≡ p.key) × Among ps p × (is_list_group p.class ≡ true)

list_found : (ps : List Fixed) (r : ObjRef) → is_list_in ps r ≡ true → HasList ps r
list_found ps r e = by (part_at r ps) refl e
  where
    by : (o : Option Fixed) → part_at r ps ≡ o → option_map_or is_list_group (option_map (λ (x : Fixed). x.class) o) false ≡ true → HasList ps r
    by None at e = absurd cc
    by (Some p) at e = let found = found_among r ps p at in (p, found.0, found.1, e)

lists_there : (h : Sets) (ps : List Fixed) (hs : List Held) (q r : ObjRef) → is_list_in ps r ≡ true → has h r q ≡ true → Among (with_items h ps hs q) (held_so r q)
lists_there h ps hs q r is e =
    let list = list_found ps r is in
    subst (λ (x : ObjRef). Among (with_items h ps hs q) (held_so x q)) (sym list.1)
    (items_there h ps hs q list.0 list.2 list.3 (subst (λ (x : ObjRef). has h x q ≡ true) list.1 e))

led_there : (v : Service) (w : Flow) (c : Config) (a : Act) (t : ObjRef) (hs : List Held) (q r : ObjRef) → is_transition a.name ≡ true → reached w (exchanged v c t.group) ≡ true → is_list_in (present v (exchanged v c t.group)) r ≡ true → has (w.sets (exchanged v c t.group)) r q ≡ true
    → Among (with_led v w c a t hs q) (held_so r q)
led_there v w c a t hs q r leads may is e =
    subst (λ (b : Bool). Among (if b then with_next v w (exchanged v c t.group) hs q else hs) (held_so r q)) (sym leads)
    (subst (λ (b : Bool). Among (if b then with_items (w.sets (exchanged v c t.group)) (present v (exchanged v c t.group)) hs q else hs) (held_so r q)) (sym may)
    (lists_there (w.sets (exchanged v c t.group)) (present v (exchanged v c t.group)) hs q r is e))

-- what is there is had

pub among_had : (hs : List Held) (r q : ObjRef) → Among hs (held_so r q) → Among (held_by hs r) q
among_had hs r q there =
    among_mapped (λ (h : Held). h.at) (filter (λ (h : Held). same_key r h.by) hs) (held_so r q)
    (among_filtered (λ (h : Held). same_key r h.by) hs (held_so r q) (tells_objects.itself r) there)

has_had : (hs : List Held) (r q : ObjRef) → Among hs (held_so r q) → has (held_by hs) r q ≡ true
has_had hs r q there = among_any (same_ref q) (held_by hs r) q (among_had hs r q there) (same_itself q)

-- the source of the effect's link

names_source : (q : ObjRef) (p : Fixed) → hears_from q p ≡ true → source_of p ≡ Some q
names_source q p e =
    let link = and_left (is_link p.class) (hears_source (as_value (held attribute.EventSource p.properties)) q) e in
    subst (λ (b : Bool). (if b then as_reference (as_value (held attribute.EventSource p.properties)) else None) ≡ Some q) (sym link)
    (by (as_value (held attribute.EventSource p.properties)) (and_right (is_link p.class) (hears_source (as_value (held attribute.EventSource p.properties)) q) e))
  where
    by : (o : Option Value) → hears_source o q ≡ true → as_reference o ≡ Some q
    by None h = absurd cc
    by (Some (value.Object s)) h = ap Some (same_ref-same s q h)
    by (Some _) h = absurd cc

pub source_named : (v : Service) → is_service v ≡ true → has_keys v ≡ true → (y : Effect) (aim : Fixed) → part_at y.object (present v y.config) ≡ Some aim → (q : ObjRef) → is_source v y q ≡ true → source_of aim ≡ Some q
source_named v good keys y aim at q e =
    let found = any_among (λ (p : Fixed). same_key y.object p.key && hears_from q p) (present v y.config) e in
    let key : y.object ≡ found.0.key = tells_objects.one y.object found.0.key (and_left (same_key y.object found.0.key) (hears_from q found.0) found.2) in
    let same : Some aim ≡ Some found.0 = sym at ∙ ap (λ (r : ObjRef). part_at r (present v y.config)) key ∙ present_found v good keys y.config found.0 found.1 in
    subst (λ (p : Fixed). source_of p ≡ Some q) (sym (some_same same)) (names_source q found.0 (and_right (same_key y.object found.0.key) (hears_from q found.0) found.2))

-- the flow that has what is put

abbrev pub put_flow : Service → Config → Config → List Held → Act → Flow
put_flow v c d hs a = record {
  configs = c ∷ d ∷ map (λ (r : ObjRef). exchanged v c r.group) (comes_to hs a.target);
  sets = λ e r. held_by hs r;
}

target_comes : (v : Service) (w : Flow) (c : Config) (a : Act) (t : ObjRef) (o : Option ObjRef) → reached w c ≡ true → (x : Target) → a.target ≡ x → Among (targets w c x) t → Among (comes_to (held_for v w c a t o) x) t
target_comes v w c a t o here (target.Direct r) is there = there
target_comes v w c a t o here (target.Through x) is there =
    among_had (held_for v w c a t o) x t
    (source_keeps v w c a t o (with_target a.target t) here (held_so x t)
    (subst (λ (y : Target). Among (with_target y t) (held_so x t)) (sym is) (inl refl)))

pub comes_there : (v : Service) (w : Flow) (c : Config) (a : Act) (t : ObjRef) (o : Option ObjRef) → reached w c ≡ true → Among (targets w c a.target) t → Among (comes_to (held_for v w c a t o) a.target) t
comes_there v w c a t o here there = target_comes v w c a t o here a.target refl there

pub all_focused : (v : Service) (w : Flow) (c : Config) (a : Act) (t : ObjRef) (o : Option ObjRef) (y : Effect) → reached w c ≡ true → Among (targets w c a.target) t → ((q : ObjRef) → is_source v y q ≡ true → o ≡ Some q)
    → Focuses v w (put_flow v c y.config (held_for v w c a t o) a) c a.name a.arguments t y
all_focused v w c a t o y here there sources = record {
  there = reached_among (put_flow v c y.config (held_for v w c a t o) a).configs y.config (inr (inl refl));
  led =
      reached_among (put_flow v c y.config (held_for v w c a t o) a).configs (exchanged v c t.group)
      (inr (inr (among_mapped (λ (r : ObjRef). exchanged v c r.group) (comes_to (held_for v w c a t o) a.target) t (comes_there v w c a t o here there))));
  items = listed;
  own = λ q source e.
      put q source t ((behind_own Any v w c a t hs q here (any_allowed v w c a t q)).keeps (held_so t q) (had_there (w.sets c t) (sent_put w c a hs q) t q e));
  sent = λ x k more is q source e.
      put q source x
      ((behind_sent Any v w c a t hs q here (any_allowed v w c a t q)).keeps (held_so x q)
      (subst (λ (xs : List Argument). Among (with_sent (w.sets c) xs hs q) (held_so x q)) (sym is) (had_there (w.sets c x) hs x q e)));
}
  where
    hs : List Held
    hs = with_target a.target t

    put : (q : ObjRef) → is_source v y q ≡ true → (r : ObjRef) → Among (all_put v w c a t hs q) (held_so r q) → has (held_by (held_for v w c a t o)) r q ≡ true
    put q source r inside =
        subst (λ (x : Option ObjRef). has (held_by (held_for v w c a t x)) r q ≡ true) (sym (sources q source))
        (has_had (all_put v w c a t hs q) r q inside)

    listed : (d : Config) → (d ≡ c) ⊎ ((is_transition a.name ≡ true) × (reached w d ≡ true) × (d ≡ exchanged v c t.group)) → (r : ObjRef) → is_list_in (present v d) r ≡ true → HasSources v w (put_flow v c y.config (held_for v w c a t o) a) y d r
    listed d (inl same) r is q source e =
        put q source r
        ((last_adds Any v w c a t hs q (any_allowed v w c a t q)).keeps (held_so r q)
        (lists_there (w.sets c) (present v c) (own_put w c a t hs q) q r (subst (λ (x : Config). is_list_in (present v x) r ≡ true) same is)
        (subst (λ (x : Config). has (w.sets x) r q ≡ true) same e)))
    listed d (inr (leads, may, same)) r is q source e =
        put q source r
        (led_there v w c a t (lists_put v w c a t hs q) q r leads (subst (λ (x : Config). reached w x ≡ true) same may)
        (subst (λ (x : Config). is_list_in (present v x) r ≡ true) same is) (subst (λ (x : Config). has (w.sets x) r q ≡ true) same e))
