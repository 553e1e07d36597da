-- Arrows: an action at its place, and what it is to be an arrow from one effect to another.
use Rattle.std.specs.Prelude.{◌≡◌, ◌+◌, ◌<◌, ◌≤◌, ◌&&◌, ℕ, zero, suc, Bool, true, false, if◌then◌else◌, List, [], ◌∷◌, ◌++◌, filter, get_or, length, slice_get, take, Option, Some, None, refl}
use Rattle.std.specs.Cmp.Derive.{both_true}
use Rattle.std.specs.List.{flat_map}
use Rattle.std.specs.Option.{option_eq, option_map_or}
use Rattle.std.proofs.Common.{arith, inl, inr, ap, ◌∙◌, sym, subst}
use Rattle.std.proofs.lemmas.Bool.{le-leb, lt-ltb}
use Rattle.std.proofs.lemmas.Bool.Decides.{Decides-eqb}
use Rattle.std.proofs.lemmas.List.{length-append}
use Rattle.std.proofs.lemmas.Option.{slice_get_within}
use Rattle.mh_base.specs.declared.obj_ref.ObjRef.{ObjRef}
use Rattle.mh_base.specs.declared.value.Value.{Value}
use Rattle.mh_base.specs.declared.value.Value.TheVariants as value
use Rattle.mh_base.specs.declared.event.EventType.{EventType}
use Rattle.mh_base.specs.Event.{number_of}
use Rattle.mh_group.specs.declared.attribute.Attribute.TheVariants as attribute
use Rattle.mh_group.specs.Table.{action_number, is_link}
use Rattle.mh_model.specs.declared.act.Act.{Act}
use Rattle.mh_model.specs.declared.act.Target.{Target}
use Rattle.mh_model.specs.declared.act.Target.TheVariants as target
use Rattle.mh_model.specs.declared.config.Config.{Config}
use Rattle.mh_model.specs.declared.object.Fixed.{Fixed}
use Rattle.mh_model.specs.Configuration.{present}
use Rattle.mh_model.specs.Faults.{is_transition}
use Rattle.mh_model.specs.Items.{hears_source, hears_type}
use Rattle.mh_model.specs.Property.{as_event, as_reference, as_value, held}
use Rattle.mh_model.specs.Reference.{same_key, same_ref}
use Rattle.mh_model.specs.Service.{Service, part_at}
use Rattle.mh_model.specs.Variables.{same_value}
use Rattle.mh_model.proofs.ListLemmas.{some_same}
use Rattle.mh_laws.specs.Active.{is_active}
use Rattle.mh_laws.specs.Costs.{Effect, act, effect_at, effects, targets}
use Rattle.mh_laws.specs.Each.{Among, Each}
use Rattle.mh_laws.specs.Flow.{Sets, reached}
use Rattle.mh_laws.specs.Layers.{IsOn}
use Rattle.mh_laws.specs.Safe.{exchanged}
use Rattle.mh_laws.proofs.EachLemmas.{among_each, among_filtered, among_joined, among_left, among_right, each_among}
use Rattle.mh_flow.specs.Sites.{Site, numbered, sites, sites_of, through_effects}
use Rattle.mh_layers.specs.declared.arrows.arrow.Arrow.{Arrow}
use Rattle.mh_layers.specs.declared.arrows.arrow.By.TheVariants as by
use Rattle.mh_layers.specs.declared.arrows.arrow.Held.{Held}
use Rattle.mh_layers.specs.declared.cause.Cause.{Cause}
use Rattle.mh_layers.specs.declared.numbered_node.NumberedNode.{NumberedNode}
use Rattle.mh_layers.specs.declared.numbered_node.NumberedNode.TheVariants as node
use Rattle.mh_layers.specs.Arrows.{IsGrantedBy, IsWhere, comes_to, counts, granted, is_action_in, is_action_of, is_waited_for, number_by}
use Rattle.mh_layers.specs.Cycle.{cause_of, first_number}
use Rattle.mh_layers.specs.Applied.{AppliedAction, IsApplied, number_in}
use Rattle.mh_layers.specs.Granting.{held_for, with_items}
use Rattle.mh_layers.specs.CostNodes.{data_of}
use Rattle.mh_layers.specs.Listening.{source_of, type_of}
use Rattle.mh_layers.specs.Reading.{IsReading, Reading, flow_read, heard_read}
use Rattle.mh_layers.specs.EffectSites.{effect_named}
use Rattle.mh_layers.specs.Trails.{IsArrowFor, IsArrowOf, IsStep, LeadsTo}
use Rattle.mh_layers.proofs.CausingLemmas.{tested}
use Rattle.mh_layers.proofs.AppliedLemmas.{deed_counts}
use Rattle.mh_layers.proofs.FocusLemmas.{counts_put, focused}
use Rattle.mh_layers.proofs.FoundLemmas.{present_found}
use Rattle.mh_layers.proofs.GrantLemmas.{IsAt, IsHeldAt, all_focused, all_granted, comes_there, put_flow, source_named}
use Rattle.mh_layers.proofs.HeardLemmas.{among_any}
use Rattle.mh_layers.proofs.NodeAgreeLemmas.{IsActiveEffect, on_is}
use Rattle.mh_layers.proofs.ListeningLemmas.{tells_objects, tells_values}
use Rattle.mh_layers.proofs.MetLemmas.{same_itself}
use Rattle.mh_layers.proofs.ServeLemmas.{read_of}

-- What a link waits for

pub waited : (p : Fixed) (s : ObjRef) (kind : EventType) → source_of p ≡ Some s → type_of p ≡ Some kind → is_waited_for (by.Event (record { source = s; kind = kind; «data» = data_of p })) p ≡ true
waited p s kind source type = both_true (of (is_link p.class) refl source) (same (data_of p))
  where
    same : (o : Option Value) → option_eq same_value o o ≡ true
    same None = refl
    same (Some x) = tells_values.itself x

    hears : (o : Option Value) → as_reference o ≡ Some s → hears_source o s ≡ true
    hears None e = absurd cc
    hears (Some (value.Object q)) e = subst (λ (x : ObjRef). same_ref q x ≡ true) (some_same e) (same_itself q)
    hears (Some _) e = absurd cc

    typed : hears_type (type_of p) kind ≡ true
    typed = ap (λ (o : Option EventType). hears_type o kind) type ∙ (Decides-eqb (number_of kind) (number_of kind)).1 refl

    of : (b : Bool) → is_link p.class ≡ b → (if b then as_reference (as_value (held attribute.EventSource p.properties)) else None) ≡ Some s → (is_link p.class && hears_source (as_value (held attribute.EventSource p.properties)) s && hears_type (as_event (held attribute.EventType p.properties)) kind) ≡ true
    of true e named = both_true (both_true e (hears (as_value (held attribute.EventSource p.properties)) named)) typed
    of false e named = absurd cc

-- Lists joined

pub items_joined : (h : Sets) (ps qs : List Fixed) (hs : List Held) (q : ObjRef) → with_items h qs (with_items h ps hs q) q ≡ with_items h (ps ++ qs) hs q
items_joined h [] qs hs q = refl
items_joined h (p ∷ ps) qs hs q = items_joined h ps qs (with_items h (p ∷ []) hs q) q

-- An action at its place

abbrev site : ObjRef → ℕ → ℕ → Act → Site
site k f i a = record { key = k; index = i; first = f; act = a }

numbered_at : (k : ObjRef) (f i : ℕ) (acts : List Act) (j : ℕ) (a : Act) → slice_get acts j ≡ Some a → Among (numbered k f i acts) (site k f (i + j) a)
numbered_at k f i [] j a e = absurd cc
numbered_at k f i (b ∷ acts) zero a e = inl (λ n. site k f (none_more i n) (some_same e n))
  where
    none_more : (m : ℕ) → m ≡ m + 0
    none_more m = omega arith
numbered_at k f i (b ∷ acts) (suc j) a e =
    inr (subst (λ (n : ℕ). Among (numbered k f (suc i) acts) (site k f n a)) (one_more i j) (numbered_at k f (suc i) acts j a e))
  where
    one_more : (m n : ℕ) → suc m + n ≡ m + suc n
    one_more m n = omega arith

-- how many actions stand before an effect
abbrev before : List (List Act) → ℕ → ℕ
before es n = length (flat_map (λ e. e) (take n es))

effects_at : (k : ObjRef) (i : ℕ) (es : List (List Act)) (n j : ℕ) (a : Act) → slice_get (get_or es n []) j ≡ Some a → Among (through_effects k i es) (site k (i + before es n) (i + before es n + j) a)
effects_at k i [] n j a e = absurd cc
effects_at k i (e ∷ es) zero j a at =
    subst (λ (f : ℕ). Among (through_effects k i (e ∷ es)) (site k f (f + j) a)) (none_more i)
    (among_left (numbered k i i e) (through_effects k (i + length e) es) (site k i (i + j) a) (numbered_at k i i e j a at))
  where
    none_more : (m : ℕ) → m ≡ m + 0
    none_more m = omega arith
effects_at k i (e ∷ es) (suc n) j a at =
    subst (λ (f : ℕ). Among (through_effects k i (e ∷ es)) (site k f (f + j) a)) (sum i (length e) (before es n) (before (e ∷ es) (suc n)) (length-append e (flat_map (λ x. x) (take n es))))
    (among_right (numbered k i i e) (through_effects k (i + length e) es) (site k (i + length e + before es n) (i + length e + before es n + j) a)
    (effects_at k (i + length e) es n j a at))
  where
    sum : (m l b t : ℕ) → t ≡ l + b → m + l + b ≡ m + t
    sum m l b t e = omega (arith, e)

sites_at : (p : Fixed) (n j : ℕ) (a : Act) → slice_get (effect_at p n) j ≡ Some a → Among (sites p) (site p.key (first_number n p) (first_number n p + j) a)
sites_at p n j a at =
    subst (λ (f : ℕ). Among (sites p) (site p.key f (f + j) a)) (one_more (before (effects p) n)) (effects_at p.key 1 (effects p) n j a at)
  where
    one_more : (m : ℕ) → 1 + m ≡ suc m
    one_more m = omega arith

-- of what is active where these are present
present_at : (ps : List Fixed) (p : Fixed) (n j : ℕ) (a : Act) → Among ps p → is_active ps p ≡ true → slice_get (effect_at p n) j ≡ Some a → Among (sites_of ps) (site p.key (first_number n p) (first_number n p + j) a)
present_at ps p n j a there active at =
    among_joined sites (filter (is_active ps) ps) p (site p.key (first_number n p) (first_number n p + j) a) (among_filtered (is_active ps) ps p active there)
    (sites_at p n j a at)

-- An arrow

pub number_named : (r : Reading) (k : NumberedNode) → (effect_named r k).number ≡ number_in k
number_named r (node.Effect c o n) = refl
number_named r _ = refl

-- the first number, and how many stand between
is_own : (n : ℕ) (p : Fixed) (a : Arrow) (j : ℕ) → a.cause.index ≡ first_number n p → a.index ≡ a.cause.index + j → j < length (effect_at p n) → is_action_in n a p ≡ true
is_own n p a j first index less =
    both_true
    (both_true ((Decides-eqb a.cause.index (first_number n p)).1 first) (le-leb a.cause.index a.index (above a.cause.index a.index j index)))
    (lt-ltb a.index (a.cause.index + length (effect_at p n)) (below a.cause.index a.index j (length (effect_at p n)) index less))
  where
    above : (m k l : ℕ) → k ≡ m + l → m ≤ k
    above m k l e = omega (arith, e)

    below : (m k l b : ℕ) → k ≡ m + l → l < b → k < m + b
    below m k l b e h = omega (arith, e, h)

-- the arrow's action is at the site
is_there : (a : Arrow) (k : ObjRef) (f i : ℕ) (x : Act) → a.cause.at ≡ k → a.index ≡ i → a.action ≡ x.name → is_action_of a (site k f i x) ≡ true
is_there a k f i x object index action =
    both_true (both_true (subst (λ (r : ObjRef). same_key a.cause.at r ≡ true) object (tells_objects.itself a.cause.at)) ((Decides-eqb a.index i).1 index))
    ((Decides-eqb (action_number a.action) (action_number x.name)).1 (ap action_number action))

comes_targets : (v : Service) (c d : Config) (hs : List Held) (a : Act) (x : Target) (t : ObjRef) → Among (comes_to hs x) t → Among (targets (put_flow v c d hs a) c x) t
comes_targets v c d hs a (target.Direct r) t there = there
comes_targets v c d hs a (target.Through x) t there = there

-- from one active effect to another, to which the node leads
is_arrow_for : (r : Reading) → IsReading r → (x y : Effect) → IsOn r.service (flow_read r) x → IsOn r.service (flow_read r) y → (first : NumberedNode) → LeadsTo r first y → (part aim : Fixed) → part_at x.object (present r.service x.config) ≡ Some part → part_at y.object (present r.service y.config) ≡ Some aim
    → (d : AppliedAction) → IsApplied r x.config (effect_at part x.number) first d → (a : Arrow) → a.cause ≡ cause_of r.service x → a.index ≡ a.cause.index + d.offset → a.action ≡ d.act.name → a.held ≡ held_for r.service (flow_read r) x.config d.act d.at (source_of aim)
    → number_by a.by ≡ y.number → is_waited_for a.by aim ≡ true → IsArrowFor r.service (flow_read r) x y a
is_arrow_for r read x y on_x on_y first leads part aim at aim_at d doing a cause index action held number waits = record {
  cause = cause;
  own = ap (λ (o : Option Fixed). option_map_or (is_action_in x.number a) o false) at ∙ is_own x.number part a d.offset starts index (slice_get_within (effect_at part x.number) d.offset d.act doing.place);
  puts =
      among_any (λ (s : Site). is_action_of a s && counts y (act r.service (granted r.service a y.config s.act) x.config s.act)) (sites_of (present r.service x.config))
      (site part.key (first_number x.number part) (first_number x.number part + d.offset) d.act) own_site (both_true here counted);
  by = number;
  waited = ap (λ (o : Option Fixed). option_map_or (is_waited_for a.by) o false) aim_at ∙ waits;
  granted = record {
    from = ap (λ (c : Cause). reached (flow_read r) c.config) cause ∙ own.here;
    held =
        subst (λ (xs : List Held). Each (IsGrantedBy r.service (flow_read r) a) xs) (sym held)
        (among_each (IsGrantedBy r.service (flow_read r) a) hs
        (λ h there. so h (each_among (IsHeldAt r.service (flow_read r) x.config d.act d.at) hs h (all_granted r.service (flow_read r) x.config d.act d.at (source_of aim) own.here doing.target) there)));
  };
}
  where
    own : IsActiveEffect (tested r.service (flow_read r) (heard_read r) (read_of r read) x) x
    own = on_is (tested r.service (flow_read r) (heard_read r) (read_of r read) x) x on_x

    same : own.part ≡ part
    same =
        some_same (sym (present_found r.service read.flow.chart.service read.flow.chart.keys x.config own.part own.there)
        ∙ ap (λ (q : ObjRef). part_at q (present r.service x.config)) (sym own.object) ∙ at)

    starts : a.cause.index ≡ first_number x.number part
    starts = ap (λ (c : Cause). c.index) cause ∙ ap (λ (o : Option Fixed). option_map_or (first_number x.number) o 1) at

    own_site : Among (sites_of (present r.service x.config)) (site part.key (first_number x.number part) (first_number x.number part + d.offset) d.act)
    own_site =
        present_at (present r.service x.config) part x.number d.offset d.act (subst (λ (p : Fixed). Among (present r.service x.config) p) same own.there)
        (subst (λ (p : Fixed). is_active (present r.service x.config) p ≡ true) same own.active) doing.place

    here : is_action_of a (site part.key (first_number x.number part) (first_number x.number part + d.offset) d.act) ≡ true
    here =
        is_there a part.key (first_number x.number part) (first_number x.number part + d.offset) d.act
        (ap (λ (c : Cause). c.at) cause ∙ own.object ∙ ap (λ (p : Fixed). p.key) same) (index ∙ ap (λ (n : ℕ). n + d.offset) starts) action

    hs : List Held
    hs = held_for r.service (flow_read r) x.config d.act d.at (source_of aim)

    -- what is granted holds where the arrow's action is done, or where that leads
    place : (e : Config) → IsAt r.service x.config d.act d.at e → IsWhere r.service a e
    place e (inl same) = inl (same ∙ ap (λ (c : Cause). c.config) (sym cause))
    place e (inr (leads, same)) = inr (record {
      site = site part.key (first_number x.number part) (first_number x.number part + d.offset) d.act;
      there =
          subst (λ (c : Cause). Among (sites_of (present r.service c.config)) (site part.key (first_number x.number part) (first_number x.number part + d.offset) d.act)) (sym cause)
          own_site;
      own = here;
      transition = ap is_transition action ∙ leads;
      at = d.at;
      comes =
          subst (λ (xs : List Held). Among (comes_to xs d.act.target) d.at) (sym held)
          (comes_there r.service (flow_read r) x.config d.act d.at (source_of aim) own.here doing.target);
      entered = same ∙ ap (λ (c : Cause). exchanged r.service c.config d.at.group) (sym cause);
    })

    so : (h : Held) → IsHeldAt r.service (flow_read r) x.config d.act d.at h → IsGrantedBy r.service (flow_read r) a h
    so h is = (is.0, place is.0 is.1, is.2, is.3)

    by_all : counts y (act r.service (put_flow r.service x.config y.config (held_for r.service (flow_read r) x.config d.act d.at (source_of aim)) d.act) x.config d.act) ≡ true
    by_all =
        counts_put r.service (put_flow r.service x.config y.config hs d.act) x.config d.act d.at y
        (comes_targets r.service x.config y.config hs d.act d.act.target d.at (comes_there r.service (flow_read r) x.config d.act d.at (source_of aim) own.here doing.target))
        (focused r.service (flow_read r) (put_flow r.service x.config y.config hs d.act) x.config d.act.name d.act.arguments d.at y
        (all_focused r.service (flow_read r) x.config d.act d.at (source_of aim) y own.here doing.target (source_named r.service read.flow.chart.service read.flow.chart.keys y aim aim_at))
        (deed_counts r read x.config own.here d.act d.at first y on_y doing.counts leads))

    counted : counts y (act r.service (granted r.service a y.config d.act) x.config d.act) ≡ true
    counted =
        subst (λ (c : Config). counts y (act r.service (put_flow r.service c y.config a.held d.act) x.config d.act) ≡ true) (sym (ap (λ (c : Cause). c.config) cause))
        (subst (λ (h : List Held). counts y (act r.service (put_flow r.service x.config y.config h d.act) x.config d.act) ≡ true) (sym held) by_all)

pub is_arrow : (r : Reading) → IsReading r → (from first to : NumberedNode) → IsStep r from first to → (part aim : Fixed) → part_at (effect_named r from).object (present r.service (effect_named r from).config) ≡ Some part
    → part_at (effect_named r to).object (present r.service (effect_named r to).config) ≡ Some aim → (d : AppliedAction) → IsApplied r (effect_named r from).config (effect_at part (number_in from)) first d → (a : Arrow) → a.cause ≡ cause_of r.service (effect_named r from) → a.index ≡ a.cause.index + d.offset → a.action ≡ d.act.name
    → a.held ≡ held_for r.service (flow_read r) (effect_named r from).config d.act d.at (source_of aim) → number_by a.by ≡ number_in to → is_waited_for a.by aim ≡ true → IsArrowOf r from to a
is_arrow r read from first to step part aim at aim_at d doing a cause index action held number waits =
    is_arrow_for r read (effect_named r from) (effect_named r to) step.from_on step.to_on first step.onward part aim at aim_at d
    (subst (λ (n : ℕ). IsApplied r (effect_named r from).config (effect_at part n) first d) (sym (number_named r from)) doing) a
    cause index action held (number ∙ sym (number_named r to)) waits
