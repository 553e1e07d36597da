-- What is put is safe.
use Rattle.std.specs.Prelude.{◌≡◌, ℕ, Bool, true, false, ◌&&◌, not, if◌then◌else◌, cond, List, [], ◌∷◌, ◌++◌, filter, reverse, Option, Some, None, refl}
use Rattle.std.specs.List.{list_all, flat_map}
use Rattle.std.specs.Option.{option_map_or}
use Rattle.std.proofs.Common.{ap, ◌∙◌, sym, subst, append_assoc}
use Rattle.std.proofs.lemmas.Grind.{flat_map-append}
use Rattle.std.proofs.lemmas.List.Elements.{filter-append}
use Rattle.mh_base.specs.declared.event.EventType.TheVariants as event
use Rattle.mh_base.specs.declared.obj_ref.ObjRef.{ObjRef}
use Rattle.mh_base.specs.declared.value.Value.TheVariants as value
use Rattle.mh_base.specs.declared.value.Value.{Value}
use Rattle.mh_group.specs.declared.attribute.Attribute.TheVariants as attribute
use Rattle.mh_group.specs.declared.attribute.Attribute.{Attribute}
use Rattle.mh_group.specs.Table.{is_link, is_runnable}
use Rattle.mh_model.specs.declared.act.Act.{Act}
use Rattle.mh_model.specs.declared.config.Config.{Config}
use Rattle.mh_model.specs.declared.event.Event.{Event}
use Rattle.mh_model.specs.declared.item.Item.TheVariants as item
use Rattle.mh_model.specs.declared.item.Item.{Item}
use Rattle.mh_model.specs.declared.object.Fixed.{Fixed}
use Rattle.mh_model.specs.declared.object.Object.{Object}
use Rattle.mh_model.specs.Configuration.{present}
use Rattle.mh_model.specs.Effects.{actions}
use Rattle.mh_model.specs.Groups.{is_initially_active, runs, halts, effect_of, group_effect, entering, is_shared, scene_closing, scene_halts, leaving, quitting}
use Rattle.mh_model.specs.Items.{hears_source, hears_type, hears_data, matches, acts, heard, plain_event}
use Rattle.mh_model.specs.Property.{held, as_effect, as_value, as_event}
use Rattle.mh_model.specs.Reference.{same_ref, group_ref}
use Rattle.mh_model.specs.Service.{Service, part_at, parts, group_parts, with_parts, is_there}
use Rattle.mh_model.specs.Tokens.{slot_actions}
use Rattle.mh_laws.specs.Active.{has_source, is_active}
use Rattle.mh_laws.specs.Each.{Each}
use Rattle.mh_laws.specs.Flow.{Flow}
use Rattle.mh_laws.specs.Safe.{IsFine, IsSafeItem, IsSafeWork}
use Rattle.mh_model.proofs.ListLemmas.{and_left, and_right}
use Rattle.mh_model.proofs.ServiceLemmas.{same_ref-same, is_whole, found_group}
use Rattle.mh_laws.proofs.EachLemmas.{each_left, each_right}

-- actions put in front of safe work
safe_acts : (v : Service) (fw : Flow) (c : Config) (as_written : List Act) (rest : List Item) → Each (IsFine v fw c) as_written → IsSafeWork v fw c rest → IsSafeWork v fw c (acts as_written ++ rest)
safe_acts v fw c [] rest h k = k
safe_acts v fw c (a ∷ more) rest h k = (h.0, safe_acts v fw c more rest h.1 k)

-- Events

-- all actions that can come to be done among these are fine
abbrev pub AreFine : (Act → Type 0) → List Fixed → List Fixed → Type 0
AreFine fine all ps = Each fine (flat_map actions (filter (is_active all) ps))

actions-append : (all ps qs : List Fixed) → flat_map actions (filter (is_active all) (ps ++ qs)) ≡ flat_map actions (filter (is_active all) ps) ++ flat_map actions (filter (is_active all) qs)
actions-append all ps qs = ap (flat_map actions) (filter-append (is_active all) ps qs) ∙ flat_map-append actions (filter (is_active all) ps) (filter (is_active all) qs)

fine_rest : (fine : Act → Type 0) (all : List Fixed) (p : Fixed) (ps : List Fixed) → AreFine fine all (p ∷ ps) → AreFine fine all ps
fine_rest fine all p ps h = by (is_active all p) h
  where
    by : (b : Bool) → Each fine (flat_map actions (cond b (p ∷ filter (is_active all) ps) (filter (is_active all) ps))) → AreFine fine all ps
    by true e = each_right fine (actions p) (flat_map actions (filter (is_active all) ps)) e
    by false e = e

fine_first : (fine : Act → Type 0) (all : List Fixed) (p : Fixed) (ps : List Fixed) → is_active all p ≡ true → AreFine fine all (p ∷ ps) → Each fine (actions p)
fine_first fine all p ps active h =
    each_left fine (actions p) (flat_map actions (filter (is_active all) ps)) (subst (λ (b : Bool). Each fine (flat_map actions (cond b (p ∷ filter (is_active all) ps) (filter (is_active all) ps)))) active h)

-- what is fine in two lists is fine in each
pub fine_left : (fine : Act → Type 0) (all ps qs : List Fixed) → AreFine fine all (ps ++ qs) → AreFine fine all ps
fine_left fine all ps qs h = each_left fine (flat_map actions (filter (is_active all) ps)) (flat_map actions (filter (is_active all) qs)) (subst (Each fine) (actions-append all ps qs) h)

pub fine_right : (fine : Act → Type 0) (all ps qs : List Fixed) → AreFine fine all (ps ++ qs) → AreFine fine all qs
fine_right fine all ps qs h = each_right fine (flat_map actions (filter (is_active all) ps)) (flat_map actions (filter (is_active all) qs)) (subst (Each fine) (actions-append all ps qs) h)

-- the effects of an object, and its slots

abbrev written : Attribute → Fixed → List Act
written a p = as_effect (held a p.properties)

effects_fine : (fine : Act → Type 0) (p : Fixed) → Each fine (actions p) → Each fine (written attribute.OnStartUp p ++ written attribute.OnCloseDown p ++ written attribute.LinkEffect p)
effects_fine fine p h = each_left fine (written attribute.OnStartUp p ++ written attribute.OnCloseDown p ++ written attribute.LinkEffect p) (slot_actions p) h

groups_fine : (fine : Act → Type 0) (p : Fixed) → Each fine (actions p) → Each fine (written attribute.OnStartUp p ++ written attribute.OnCloseDown p)
groups_fine fine p h = each_left fine (written attribute.OnStartUp p ++ written attribute.OnCloseDown p) (written attribute.LinkEffect p) (effects_fine fine p h)

start_up_fine : (fine : Act → Type 0) (p : Fixed) → Each fine (actions p) → Each fine (written attribute.OnStartUp p)
start_up_fine fine p h = each_left fine (written attribute.OnStartUp p) (written attribute.OnCloseDown p) (groups_fine fine p h)

close_down_fine : (fine : Act → Type 0) (p : Fixed) → Each fine (actions p) → Each fine (written attribute.OnCloseDown p)
close_down_fine fine p h = each_right fine (written attribute.OnStartUp p) (written attribute.OnCloseDown p) (groups_fine fine p h)

effect_fine : (fine : Act → Type 0) (p : Fixed) → Each fine (actions p) → Each fine (written attribute.LinkEffect p)
effect_fine fine p h = each_right fine (written attribute.OnStartUp p ++ written attribute.OnCloseDown p) (written attribute.LinkEffect p) (effects_fine fine p h)

pub slots_fine : (fine : Act → Type 0) (p : Fixed) → Each fine (actions p) → Each fine (slot_actions p)
slots_fine fine p h = each_right fine (written attribute.OnStartUp p ++ written attribute.OnCloseDown p ++ written attribute.LinkEffect p) (slot_actions p) h

heard_source : (all : List Fixed) (s : Option Value) (source : ObjRef) → hears_source s source ≡ true → is_there source all ≡ true → has_source all s ≡ true
heard_source all None source h there = absurd cc
heard_source all (Some (value.Object r)) source h there = subst (λ (q : ObjRef). is_there q all ≡ true) (sym (same_ref-same r source h)) there
heard_source all (Some (value.Bool b)) source h there = absurd cc
heard_source all (Some (value.Int n)) source h there = absurd cc
heard_source all (Some (value.Octets b)) source h there = absurd cc
heard_source all (Some (value.Content b)) source h there = absurd cc

-- a link that hears what comes from something present is active
matches_active : (e : Event) (all : List Fixed) (o : Object) → is_there e.source all ≡ true → matches e o ≡ true → is_active all o.fixed ≡ true
matches_active e all o there h =
    let source = as_value (held attribute.EventSource o.fixed.properties) in
    let typed = and_left (is_link o.fixed.class && o.body.running && hears_source source e.source && hears_type (as_event (held attribute.EventType o.fixed.properties)) e.kind) (hears_data (as_value (held attribute.EventData o.fixed.properties)) e.data) h in
    let sourced = and_left (is_link o.fixed.class && o.body.running && hears_source source e.source) (hears_type (as_event (held attribute.EventType o.fixed.properties)) e.kind) typed in
    let has = heard_source all source e.source (and_right (is_link o.fixed.class && o.body.running) (hears_source source e.source) sourced) there in
    by (is_link o.fixed.class) (has_source all source) has
  where
    by : (b c : Bool) → c ≡ true → (if b then c else true) ≡ true
    by true c e = e
    by false c e = refl

-- what an event from something present puts
pub safe_heard : (v : Service) (fw : Flow) (c : Config) (e : Event) (all : List Fixed) (os : List Object) (rest : List Item) → is_there e.source all ≡ true → AreFine (IsFine v fw c) all (parts os) → IsSafeWork v fw c rest → IsSafeWork v fw c (heard e os ++ rest)
safe_heard v fw c e all [] rest there fine k = k
safe_heard v fw c e all (o ∷ os) rest there fine k =
    by (matches e o) refl (safe_heard v fw c e all os rest there (fine_rest (IsFine v fw c) all o.fixed (parts os) fine) k)
  where
    effect : List Act
    effect = as_effect (held attribute.LinkEffect o.fixed.properties)

    by : (b : Bool) → matches e o ≡ b → IsSafeWork v fw c (heard e os ++ rest) → IsSafeWork v fw c (((if b then acts effect else []) ++ heard e os) ++ rest)
    by true is below =
        let active = matches_active e all o there is in
        let good = effect_fine (IsFine v fw c) o.fixed (fine_first (IsFine v fw c) all o.fixed (parts os) active fine) in
        subst (IsSafeWork v fw c) (sym (append_assoc (acts effect) (heard e os) rest)) (safe_acts v fw c effect (heard e os ++ rest) good below)
    by false is below = below

-- an event that comes or not
pub safe_emits : (v : Service) (fw : Flow) (c : Config) (e : Event) (b : Bool) (rest : List Item) → is_there e.source (present v c) ≡ true → IsSafeWork v fw c rest → IsSafeWork v fw c ((if b then item.Emit e ∷ [] else []) ++ rest)
safe_emits v fw c e true rest there k = (there, k)
safe_emits v fw c e false rest there k = k

-- Groups

safe_runs : (v : Service) (fw : Flow) (c : Config) (ps : List Fixed) (rest : List Item) → IsSafeWork v fw c rest → IsSafeWork v fw c (runs ps ++ rest)
safe_runs v fw c [] rest k = k
safe_runs v fw c (p ∷ ps) rest k = (tt, safe_runs v fw c ps rest k)

safe_halts : (v : Service) (fw : Flow) (c : Config) (ps : List Fixed) (rest : List Item) → IsSafeWork v fw c rest → IsSafeWork v fw c (halts ps ++ rest)
safe_halts v fw c [] rest k = k
safe_halts v fw c (p ∷ ps) rest k = (tt, safe_halts v fw c ps rest k)

-- the actions of a part that is found, if its effects are active
pub found_fine : (fine : Act → Type 0) (all ps : List Fixed) (r : ObjRef) (p : Fixed) → is_active all p ≡ true → part_at r ps ≡ Some p → AreFine fine all ps → Each fine (actions p)
found_fine fine all [] r p active e h = absurd cc
found_fine fine all (x ∷ ps) r p active e h = by (same_ref r x.key) e (λ rest. found_fine fine all ps r p active rest (fine_rest fine all x ps h))
  where
    by : (b : Bool) → cond b (Some x) (part_at r ps) ≡ Some p → (part_at r ps ≡ Some p → Each fine (actions p)) → Each fine (actions p)
    by true is below =
        let same : x ≡ p = ap (λ (m : Option Fixed). option_map_or (λ (z : Fixed). z) m x) is in
        fine_first fine all p ps active (subst (λ (z : Fixed). AreFine fine all (z ∷ ps)) same h)
    by false is below = below is

-- the effects of a group itself are active
group_fine : (fine : Act → Type 0) (all : List Fixed) (g : List ℕ) (ps : List Fixed) (p : Fixed) → list_all is_whole ps ≡ true → AreFine fine all ps → part_at (group_ref g) ps ≡ Some p → Each fine (actions p)
group_fine fine all g ps p whole h e =
    let no_link : is_link p.class ≡ false = found_group g ps p whole e in
    let active : is_active all p ≡ true = ap (λ (b : Bool). if b then has_source all (as_value (held attribute.EventSource p.properties)) else true) no_link in
    found_fine fine all ps (group_ref g) p active e h

-- a group that can be entered or left: its parts are whole, and their actions are fine
pub record IsFineGroup (v : Service) (fw : Flow) (c : Config) (g : List ℕ) : Type 0 where
  pub all : List Fixed
  pub whole : list_all is_whole (group_parts v g) ≡ true
  pub fine : AreFine (IsFine v fw c) all (group_parts v g)

safe_start_up : (v : Service) (fw : Flow) (c : Config) (g : List ℕ) (rest : List Item) → IsFineGroup v fw c g → IsSafeWork v fw c rest → IsSafeWork v fw c (group_effect g (group_parts v g) attribute.OnStartUp ++ rest)
safe_start_up v fw c g rest is k = by (part_at (group_ref g) (group_parts v g)) refl
  where
    by : (m : Option Fixed) → part_at (group_ref g) (group_parts v g) ≡ m → IsSafeWork v fw c (effect_of m attribute.OnStartUp ++ rest)
    by None e = k
    by (Some p) e = safe_acts v fw c (as_effect (held attribute.OnStartUp p.properties)) rest (start_up_fine (IsFine v fw c) p (group_fine (IsFine v fw c) is.all g (group_parts v g) p is.whole is.fine e)) k

safe_close_down : (v : Service) (fw : Flow) (c : Config) (g : List ℕ) (rest : List Item) → IsFineGroup v fw c g → IsSafeWork v fw c rest → IsSafeWork v fw c (group_effect g (group_parts v g) attribute.OnCloseDown ++ rest)
safe_close_down v fw c g rest is k = by (part_at (group_ref g) (group_parts v g)) refl
  where
    by : (m : Option Fixed) → part_at (group_ref g) (group_parts v g) ≡ m → IsSafeWork v fw c (effect_of m attribute.OnCloseDown ++ rest)
    by None e = k
    by (Some p) e = safe_acts v fw c (as_effect (held attribute.OnCloseDown p.properties)) rest (close_down_fine (IsFine v fw c) p (group_fine (IsFine v fw c) is.all g (group_parts v g) p is.whole is.fine e)) k

-- what entering a group puts
pub safe_entering : (v : Service) (fw : Flow) (c : Config) (g : List ℕ) (rest : List Item) → IsFineGroup v fw c g → is_there (group_ref g) (present v c) ≡ true → IsSafeWork v fw c rest → IsSafeWork v fw c (entering g (group_parts v g) ++ rest)
safe_entering v fw c g rest is there k =
    let start = group_effect g (group_parts v g) attribute.OnStartUp in
    let active : List Fixed = filter is_initially_active (group_parts v g) in
    let last : List Item = plain_event (group_ref g) event.IsRunning ∷ [] in
    let tail : IsSafeWork v fw c (runs active ++ (last ++ rest)) = safe_runs v fw c active (last ++ rest) (there, k) in
    let whole_list : IsSafeWork v fw c (start ++ (runs active ++ (last ++ rest))) = safe_start_up v fw c g (runs active ++ (last ++ rest)) is tail in
    let joined : (start ++ runs active ++ last) ++ rest ≡ start ++ (runs active ++ (last ++ rest)) = append_assoc (start ++ runs active) last rest ∙ append_assoc start (runs active) (last ++ rest) in
    subst (IsSafeWork v fw c) (sym joined) whole_list

-- Leaving

-- items that are safe in front of all safe work
abbrev pub IsSafeFront : Service → Flow → Config → List Item → Type 0
IsSafeFront v fw c is = (rest : List Item) → IsSafeWork v fw c rest → IsSafeWork v fw c (is ++ rest)

pub both_safe : (v : Service) (fw : Flow) (c : Config) (is js : List Item) → IsSafeFront v fw c is → IsSafeFront v fw c js → IsSafeFront v fw c (is ++ js)
both_safe v fw c is js f g rest k = subst (IsSafeWork v fw c) (sym (append_assoc is js rest)) (f (js ++ rest) (g rest k))

abbrev pub IsFineScene : Service → Flow → Config → Option (List ℕ) → Type 0
IsFineScene v fw c None = Unit {0}
IsFineScene v fw c (Some g) = IsFineGroup v fw c g

safe_closing : (v : Service) (fw : Flow) (c : Config) (scene : Option (List ℕ)) → IsFineScene v fw c scene → IsSafeFront v fw c (scene_closing (with_parts v scene))
safe_closing v fw c None is rest k = k
safe_closing v fw c (Some g) is rest k = safe_close_down v fw c g rest is k

safe_scene_halts : (v : Service) (fw : Flow) (c : Config) (scene : Option (List ℕ)) → IsSafeFront v fw c (scene_halts (with_parts v scene))
safe_scene_halts v fw c None rest k = k
safe_scene_halts v fw c (Some g) rest k = safe_halts v fw c (filter (λ p. is_runnable p.class) (reverse (group_parts v g))) rest k

-- what leaving a configuration for a scene puts
pub safe_leaving : (v : Service) (fw : Flow) (c : Config) (app : List ℕ) (scene : Option (List ℕ)) (target : List ℕ) → IsFineScene v fw c scene → IsSafeItem v fw c (item.Exchange target) → IsSafeWork v fw c (leaving (group_parts v app) (with_parts v scene) target)
safe_leaving v fw c app scene target is k =
    let stopped : List Fixed = filter (λ p. is_runnable p.class && not (is_shared p)) (reverse (group_parts v app)) in
    let ends = both_safe v fw c (scene_closing (with_parts v scene)) (scene_halts (with_parts v scene)) (safe_closing v fw c scene is) (safe_scene_halts v fw c scene) in
    both_safe v fw c (scene_closing (with_parts v scene) ++ scene_halts (with_parts v scene)) (halts stopped) ends (safe_halts v fw c stopped) (item.Exchange target ∷ []) (k, tt)

-- what leaving the application puts, in front of a last item
pub safe_quitting : (v : Service) (fw : Flow) (c : Config) (app : List ℕ) (scene : Option (List ℕ)) (last : Item) → IsFineGroup v fw c app → IsFineScene v fw c scene → IsSafeItem v fw c last → IsSafeWork v fw c (quitting app (group_parts v app) (with_parts v scene) last)
safe_quitting v fw c app scene last own is k =
    let stopped : List Fixed = filter (λ p. is_runnable p.class) (reverse (group_parts v app)) in
    let down : List Item = group_effect app (group_parts v app) attribute.OnCloseDown in
    let close = scene_closing (with_parts v scene) in
    let ends = both_safe v fw c close down (safe_closing v fw c scene is) (λ rest safe. safe_close_down v fw c app rest own safe) in
    let halted = both_safe v fw c (close ++ down) (scene_halts (with_parts v scene)) ends (safe_scene_halts v fw c scene) in
    both_safe v fw c (close ++ down ++ scene_halts (with_parts v scene)) (halts stopped) halted (safe_halts v fw c stopped) (last ∷ []) (k, tt)
