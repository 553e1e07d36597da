-- What is kept has its names: its configuration, its object and its value stand at their numbers.
use Rattle.std.specs.Prelude.{◌≡◌, ◌<◌, ◌≤◌, ℕ, zero, suc, Bool, true, false, ◌&&◌, List, [], ◌∷◌, ◌++◌, get_or, length, map, position, slice_get, option_and_then, is_some, Option, Some, None, refl}
use Rattle.std.specs.List.{flat_map, list_all, list_any}
use Rattle.std.specs.Map.{lookup}
use Rattle.std.specs.Option.{option_map}
use Rattle.std.proofs.Common.{arith, inl, inr, ap, ◌∙◌, sym, subst, true≢false, length-append}
use Rattle.std.proofs.lemmas.Option.{slice_get-get_or}
use Rattle.mh_base.specs.declared.obj_ref.ObjRef.{ObjRef}
use Rattle.mh_base.specs.declared.value.Value.{Value}
use Rattle.mh_base.specs.declared.event.EventType.{EventType}
use Rattle.mh_model.specs.declared.config.Config.{Config}
use Rattle.mh_model.specs.Configuration.{present}
use Rattle.mh_model.specs.Reference.{same_key}
use Rattle.mh_model.specs.Service.{is_there}
use Rattle.mh_model.specs.Variables.{same_value}
use Rattle.mh_model.proofs.ListLemmas.{and_left, and_right}
use Rattle.mh_laws.specs.Each.{Among, Each}
use Rattle.mh_laws.specs.Flow.{Flow, reached}
use Rattle.mh_laws.proofs.EachLemmas.{among_each, among_mapped, each_among, got_among}
use Rattle.mh_laws.proofs.NodeLemmas.{config_among}
use Rattle.mh_layers.specs.declared.numbered_node.Hears.{Hears}
use Rattle.mh_layers.specs.declared.numbered_node.Hears.TheVariants as hears
use Rattle.mh_layers.specs.declared.numbered_node.NumberedNode.{NumberedNode}
use Rattle.mh_layers.specs.declared.numbered_node.NumberedNode.TheVariants as node
use Rattle.mh_layers.specs.CostNode.{With}
use Rattle.mh_layers.specs.CostNodes.{is_named, values}
use Rattle.mh_layers.specs.Listening.{ear_at, same_ear}
use Rattle.mh_layers.specs.Named.{IsEffectKept}
use Rattle.mh_layers.specs.Reading.{IsReading, Reading, config_named, flow_read, has_config, has_hearing, has_names, has_object, heard_read, hearing_named, kept, longer, no_config, no_object, no_value, object_named, octets_in, same_setting, settings, value_named}
use Rattle.mh_layers.specs.Stretches.{is_effect_node}
use Rattle.mh_layers.proofs.ListeningLemmas.{objects_numbered, present_among, tells_objects, tells_values}
use Rattle.mh_layers.proofs.MetLemmas.{found_among, reached_among, there_found}
use Rattle.mh_layers.proofs.PositionLemmas.{TellsOne, any_position, position_is, position_there, put_all}
use Rattle.mh_layers.proofs.ReadingLemmas.{list_there, setting_itself, tells_settings}

-- A NAME THAT IS LONGER THAN ALL

shorter : (gs : List (List ℕ)) (g : List ℕ) → Among gs g → length g < length (longer gs)
unfolding longer
shorter [] g there = absurd cc
shorter (x ∷ gs) g (inl same) =
    let long = length-append x (flat_map (λ (y : List ℕ). y) gs) in
    let is : length x ≡ length g = ap length same in
    omega (arith, long, is)
shorter (x ∷ gs) g (inr more) =
    let long = length-append x (flat_map (λ (y : List ℕ). y) gs) in
    let less = shorter gs g more in
    omega (arith, long, less)

not_longer : (gs : List (List ℕ)) → Among gs (longer gs) → ⊥
not_longer gs there = let less = shorter gs (longer gs) there in omega (arith, less)

not_config : (cs : List Config) → Among cs (no_config cs) → ⊥
not_config cs there = not_longer (map (λ (c : Config). c.app) cs) (among_mapped (λ (c : Config). c.app) cs (no_config cs) there)

not_object : (os : List ObjRef) → Among os (no_object os) → ⊥
not_object os there = not_longer (map (λ (o : ObjRef). o.group) os) (among_mapped (λ (o : ObjRef). o.group) os (no_object os) there)

not_value : (xs : List Value) → Among xs (no_value xs) → ⊥
not_value xs there = not_longer (map octets_in xs) (among_mapped octets_in xs (no_value xs) there)

-- WHAT STANDS AT A NUMBER

none_at : {X : Type 0} (xs : List X) (n : ℕ) (d : X) → slice_get xs n ≡ None → get_or xs n d ≡ d
none_at [] zero d e = refl
none_at [] (suc n) d e = refl
none_at (x ∷ xs) zero d e = absurd cc
none_at (x ∷ xs) (suc n) d e = none_at xs n d e

-- what is found among these under the name of a number is not what a number without a member stands for
there_at : {X : Type 0} (same : X → X → Bool) → TellsOne same → (xs : List X) (n : ℕ) (d : X) → (Among xs d → ⊥) → list_any (same (get_or xs n d)) xs ≡ true → is_some (slice_get xs n) ≡ true
there_at {X} same tells xs n d not any = by (slice_get xs n) refl
  where
    by : (o : Option X) → slice_get xs n ≡ o → is_some (slice_get xs n) ≡ true
    by (Some x) e = ap is_some e
    by None e =
        let at = position_there (same d) xs (subst (λ (y : X). list_any (same y) xs ≡ true) (none_at xs n d e) any) in
        absurd (not (got_among xs at.0 d (position_is same tells xs d at.0 at.1)))

pub config_has : (r : Reading) (n : ℕ) → reached (flow_read r) (config_named r n) ≡ true → has_config r n ≡ true
config_has r n here =
    there_at same_setting tells_settings (settings r) n (no_config (settings r)) (not_config (settings r))
    (put_all same_setting setting_itself [] (flow_read r).configs (config_named r n) (config_among (flow_read r).configs (config_named r n) here))

object_any : (r : Reading) (n : ℕ) → list_any (same_key (object_named r n)) r.listeners.objects ≡ true → has_object r n ≡ true
object_any r n any = there_at same_key tells_objects r.listeners.objects n (no_object r.listeners.objects) (not_object r.listeners.objects) any

object_has : (r : Reading) → IsReading r → (c : Config) (n : ℕ) → is_there (object_named r n) (present r.service c) ≡ true → has_object r n ≡ true
object_has r read c n there =
    let o = object_named r n in
    let part = there_found o (present r.service c) there in
    let found = found_among o (present r.service c) part.0 part.1 in
    let at = (objects_numbered r.service r.listeners read.listening).all part.0 o (present_among r.service c part.0 found.1) (inl (sym found.0)) in
    object_any r n (any_position (same_key o) r.listeners.objects ∙ ap is_some at.1)

source_has : (r : Reading) (n : ℕ) (kind : EventType) (h : Hears) → is_named (heard_read r (object_named r n) kind) (hearing_named r (object_named r n) kind h) ≡ true → has_object r n ≡ true
source_has r n kind h named = by (position (same_key (object_named r n)) r.listeners.objects) refl named
  where
    by : (p : Option ℕ) → position (same_key (object_named r n)) r.listeners.objects ≡ p
        → is_named (option_and_then (λ e. lookup (same_ear e) r.listeners.ears) (option_map (λ m. ear_at m kind) p)) (hearing_named r (object_named r n) kind h) ≡ true → has_object r n ≡ true
    by None e none = absurd cc
    by (Some m) e some = object_any r n (any_position (same_key (object_named r n)) r.listeners.objects ∙ ap is_some e)

hearing_has : (r : Reading) (o : ObjRef) (kind : EventType) (h : Hears) → is_named (heard_read r o kind) (hearing_named r o kind h) ≡ true → has_hearing r o kind h ≡ true
hearing_has r o kind hears.Plain named = refl
hearing_has r o kind hears.Any named = refl
hearing_has r o kind (hears.With n) named = by (heard_read r o kind) named
  where
    by : (h : Option (List Value)) → is_named h (With (value_named (values h) n)) ≡ true → is_some (slice_get (values h) n) ≡ true
    by None e = absurd cc
    by (Some xs) e = there_at same_value tells_values xs n (no_value xs) (not_value xs) e

both_so : (a b : Bool) → a ≡ true → b ≡ true → (a && b) ≡ true
both_so true b e f = f
both_so false b e f = absurd cc

-- what is kept has its names
pub names_there : (r : Reading) → IsReading r → (k : NumberedNode) → kept r k → has_names r k ≡ true
names_there r read (node.Effect c o n) has = both_so (has_config r c) (has_object r o) (config_has r c has.0) (object_has r read (config_named r c) o has.1)
names_there r read (node.Fired c o kind g) has =
    both_so (has_config r c) (has_object r o && has_hearing r (object_named r o) kind g) (config_has r c has.0)
    (both_so (has_object r o) (has_hearing r (object_named r o) kind g) (object_has r read (config_named r c) o has.1) (hearing_has r (object_named r o) kind g has.2))
names_there r read (node.Entry o kind g) has =
    both_so (has_object r o) (has_hearing r (object_named r o) kind g) (source_has r o kind g has) (hearing_has r (object_named r o) kind g has)
names_there r read (node.Change c o) has =
    both_so (has_config r c) (has_object r o) (config_has r c has.0) (object_has r read (config_named r c) o (list_there r (config_named r c) (object_named r o) has.1))
names_there r read (node.Leave c all) has = config_has r c has
names_there r read (node.Enter c) has = config_has r c has
names_there r read (node.Taken c k) has = config_has r c has.0

-- and where there are none, it is not kept
pub no_names : (r : Reading) → IsReading r → (k : NumberedNode) → has_names r k ≡ false → kept r k → ⊥
no_names r read k none has = true≢false (sym (names_there r read k has) ∙ none)

-- WHAT A NODE HAS

pub effect_has : (r : Reading) (k : NumberedNode) (c o n : ℕ) → k ≡ node.Effect c o n → has_names r k ≡ true → (has_config r c ≡ true) × (has_object r o ≡ true)
effect_has r k c o n is all =
    let both = ap (has_names r) (sym is) ∙ all in
    (and_left (has_config r c) (has_object r o) both, and_right (has_config r c) (has_object r o) both)

pub fired_has : (r : Reading) (k : NumberedNode) (c o : ℕ) (kind : EventType) (g : Hears) → k ≡ node.Fired c o kind g → has_names r k ≡ true
    → (has_config r c ≡ true) × (has_object r o ≡ true) × (has_hearing r (object_named r o) kind g ≡ true)
fired_has r k c o kind g is all =
    let three = ap (has_names r) (sym is) ∙ all in
    let two = and_right (has_config r c) (has_object r o && has_hearing r (object_named r o) kind g) three in (
      and_left (has_config r c) (has_object r o && has_hearing r (object_named r o) kind g) three,
      and_left (has_object r o) (has_hearing r (object_named r o) kind g) two,
      and_right (has_object r o) (has_hearing r (object_named r o) kind g) two,
    )

pub entry_has : (r : Reading) (k : NumberedNode) (o : ℕ) (kind : EventType) (g : Hears) → k ≡ node.Entry o kind g → has_names r k ≡ true → (has_object r o ≡ true) × (has_hearing r (object_named r o) kind g ≡ true)
entry_has r k o kind g is all =
    let both = ap (has_names r) (sym is) ∙ all in
    (and_left (has_object r o) (has_hearing r (object_named r o) kind g) both, and_right (has_object r o) (has_hearing r (object_named r o) kind g) both)

pub change_has : (r : Reading) (k : NumberedNode) (c o : ℕ) → k ≡ node.Change c o → has_names r k ≡ true → (has_config r c ≡ true) × (has_object r o ≡ true)
change_has r k c o is all =
    let both = ap (has_names r) (sym is) ∙ all in
    (and_left (has_config r c) (has_object r o) both, and_right (has_config r c) (has_object r o) both)

-- NUMBERS OF WHAT IS REACHED

pub something : {X : Type 0} (o : Option X) → o ≡ None → is_some o ≡ true → ⊥
something o none some = true≢false (sym some ∙ ap is_some none)

pub some_there : {X : Type 0} (o : Option X) → is_some o ≡ true → (x : X) × (o ≡ Some x)
some_there None some = absurd cc
some_there (Some x) some = (x, refl)

pub unnumbered : (r : Reading) (c : Config) → reached (flow_read r) c ≡ true → position (same_setting c) (settings r) ≡ None → ⊥
unnumbered r c here none =
    let at = position_there (same_setting c) (settings r) (put_all same_setting setting_itself [] (flow_read r).configs c (config_among (flow_read r).configs c here)) in
    let never = sym none ∙ at.1 in
    absurd cc

pub numbered_has : (r : Reading) (c : Config) (n : ℕ) → position (same_setting c) (settings r) ≡ Some n → has_config r n ≡ true
numbered_has r c n at = ap is_some (position_is same_setting tells_settings (settings r) c n at)

-- MEMBERS OF LISTS

pub each_item : {X : Type 0} (P : X → Type 0) (xs : List X) (n : ℕ) (d : X) → n < length xs → Each P xs → P (get_or xs n d)
each_item P [] n d less each = absurd (omega (arith, less))
each_item P (x ∷ xs) zero d less each = each.0
each_item P (x ∷ xs) (suc n) d less each = each_item P xs n d (omega (arith, less)) each.1

pub item_is : {X : Type 0} (P : X → Type 0) (xs : List X) (n : ℕ) (x : X) → n < length xs → x ≡ get_or xs n x → Each P xs → P x
item_is P xs n x less is each = subst P (sym is) (each_item P xs n x less each)

pub item_passes : {X : Type 0} (t : X → Bool) (xs : List X) (n : ℕ) (x : X) → n < length xs → x ≡ get_or xs n x → list_all t xs ≡ true → t x ≡ true
item_passes {X} t xs n x less is all = ap t is ∙ by xs n less all
  where
    by : (ys : List X) (m : ℕ) → m < length ys → list_all t ys ≡ true → t (get_or ys m x) ≡ true
    by [] m h k = absurd (omega (arith, h))
    by (y ∷ ys) zero h k = and_left (t y) (list_all t ys) k
    by (y ∷ ys) (suc m) h k = by ys m (omega (arith, h)) (and_right (t y) (list_all t ys) k)

pub item_among : {X : Type 0} (xs : List X) (n : ℕ) (x : X) → n < length xs → x ≡ get_or xs n x → Among xs x
item_among {X} xs n x less is = got_among xs n x (slice_get-get_or xs n x less ∙ ap (λ (y : X). Some y) (sym is))

all_pass : {X : Type 0} (t : X → Bool) (xs : List X) → ((x : X) → Among xs x → t x ≡ true) → list_all t xs ≡ true
all_pass t [] h = refl
all_pass t (x ∷ xs) h = both_so (t x) (list_all t xs) (h x (inl refl)) (all_pass t xs (λ y there. h y (inr there)))

-- each configuration of the flow is reached
pub all_reached : (w : Flow) → list_all (reached w) w.configs ≡ true
all_reached w = all_pass (reached w) w.configs (reached_among w.configs)

-- so are the first of these and those behind it
pub parts_pass : {X : Type 0} (t : X → Bool) (all : List X) (x : X) (xs : List X) → list_all t all ≡ true → all ≡ x ∷ xs → (t x ≡ true) × (list_all t xs ≡ true)
parts_pass {X} t all x xs pass is =
    let both : (t x && list_all t xs) ≡ true = ap (list_all t) (sym is) ∙ pass in
    (and_left (t x) (list_all t xs) both, and_right (t x) (list_all t xs) both)
