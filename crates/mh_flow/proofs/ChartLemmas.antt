-- Numbers of a service: references put one by one, and the sets of configurations one behind the other.
use Rattle.std.proofs.Common.{◌≡◌, ℕ, suc, zero, ◌+◌, ◌-◌, ◌^◌, ◌<◌, ◌≤◌, Bool, true, false, ◌&&◌, ◌||◌, cond, ◌==◌, drop, List, [], ◌∷◌, ◌++◌, length, map, slice_get, Option, Some, None, refl, ap, sym, subst, ◌∙◌, arith, length-append, append-nil}
use Rattle.std.specs.List.{AllByRecursion, IsDistinct, flat_map, list_any, position}
use Rattle.std.specs.Map.{lookup}
use Rattle.std.specs.Option.{option_eq, option_map, option_or, option_to_list}
use Rattle.std.specs.Prelude.{option_and_then, if◌then◌else◌, Result, Ok, IfOk}
use Rattle.std.specs.Cmp.Lexicographic.{nat_list_eq_equiv}
use Rattle.std.proofs.lemmas.List.{map-append}
use Rattle.std.proofs.lemmas.List.Concat.{flat_map-append}
use Rattle.std.proofs.lemmas.Map.Keys.{IsDistinct-head, IsDistinct-tail}
use Rattle.std.specs.Str.{bytes_eq}
use Rattle.std.proofs.Math.Bool.{and_comm}
use Rattle.indexmap.specs.IndexSet.{insert_key}
use Rattle.mh_base.specs.declared.obj_ref.ObjRef.{ObjRef}
use Rattle.mh_group.specs.declared.action_name.ActionName.{ActionName}
use Rattle.mh_group.specs.declared.action_name.ActionName.TheVariants as action
use Rattle.mh_model.specs.declared.act.Act.{Act}
use Rattle.mh_model.specs.declared.act.Argument.{Argument}
use Rattle.mh_model.specs.declared.act.Argument.TheVariants as argument
use Rattle.mh_model.specs.declared.config.Config.{Config}
use Rattle.mh_model.specs.declared.object.Fixed.{Fixed}
use Rattle.mh_model.specs.Configuration.{configurations, present, same_config, same_scene, scene_parts}
use Rattle.mh_model.specs.Effects.{actions}
use Rattle.mh_model.specs.Reference.{same_key, same_ref}
use Rattle.mh_model.specs.Service.{Service, group_parts}
use Rattle.mh_laws.specs.Describing.{says}
use Rattle.mh_laws.specs.Flow.{is_holder, refers, reads_reference}
use Rattle.mh_group.specs.Table.{is_list_group}
use Rattle.mh_model.specs.Property.{as_reference, value_held}
use Rattle.mh_model.specs.Service.{fresh}
use Rattle.mh_model.specs.Tokens.{members}
use Rattle.mh_model.proofs.ServiceLemmas.{same_ref-same}
use Rattle.mh_flow.proofs.SiteLemmas.{behind}
use Rattle.mh_flow.proofs.IndexLemmas.{holder_place, holder_place_in_scene, position_next}
use Rattle.mh_flow.specs.declared.chart.Bases.{Bases}
use Rattle.mh_flow.specs.declared.chart.Set.{Set}
use Rattle.mh_flow.specs.declared.chart.Set.TheVariants as set
use Rattle.mh_flow.specs.Index.{AreNamed, Home, held_index, holders}
use Rattle.mh_flow.specs.Chart.{Chart, IsChart, argument_of, based, bases_of, first_items, first_sets, first_value, firsts, handed, handed_argument, handed_by, held_of, led_from, node_at, node_from, place_in, read_by, sets_from, sets_in, sum_of, with_reference, with_references, written_reference}

-- References as keys.

pub key_is : (r q : ObjRef) → same_key r q ≡ same_ref r q
key_is r q = and_comm (r.number == q.number) (bytes_eq r.group q.group)

pub position_key : (r : ObjRef) (qs : List ObjRef) → position (same_key r) qs ≡ position (same_ref r) qs
position_key r qs = λ i. position (λ q. key_is r q i) qs

pub any_key : (r : ObjRef) (qs : List ObjRef) → list_any (same_key r) qs ≡ list_any (same_ref r) qs
any_key r qs = λ i. list_any (λ q. key_is r q i) qs

pub insert_reference : (qs : List ObjRef) (q : ObjRef) → insert_key same_key qs q ≡ with_reference qs q
insert_reference qs q = ap (λ (b : Bool). cond b qs (qs ++ q ∷ [])) (any_key q qs)

-- References one by one.

pub with_more : (qs rs ss : List ObjRef) → with_references (with_references qs rs) ss ≡ with_references qs (rs ++ ss)
with_more qs [] ss = refl
with_more qs (r ∷ rs) ss = with_more (with_reference qs r) rs ss

firsts_split : (p : Fixed) → option_to_list (first_value p) ++ map (λ m. m.object) (first_items p) ≡ firsts p
firsts_split p = by (refers p.class) (is_list_group p.class)
  where
    o : Option ObjRef
    o = as_reference (value_held p (fresh p).body)

    by : (a b : Bool) → option_to_list (cond a o None) ++ map (λ m. m.object) (cond b (members p) []) ≡ cond a (option_to_list o) [] ++ cond b (map (λ m. m.object) (members p)) []
    by true true = refl
    by true false = refl
    by false true = refl
    by false false = refl

pub firsts_put : (qs : List ObjRef) (p : Fixed) → with_references (with_references qs (option_to_list (first_value p))) (map (λ m. m.object) (first_items p)) ≡ with_references qs (firsts p)
firsts_put qs p = with_more qs (option_to_list (first_value p)) (map (λ m. m.object) (first_items p)) ∙ ap (with_references qs) (firsts_split p)

-- an action hands on one reference at most
pub handed_once : (a : Act) → flat_map written_reference (option_to_list (handed_argument a)) ≡ handed a
handed_once a = by a.name a.arguments
  where
    -- what is read is written as before, and what is not is no written reference
    set : (m : Option Argument) → flat_map written_reference (option_to_list (read_by action.SetVariable m)) ≡ flat_map written_reference (option_to_list m)
    set None = refl
    set (Some (argument.Direct x)) = refl
    set (Some (argument.Receiver v)) = refl
    set (Some (argument.Through v k)) = unless_read (reads_reference (argument.Through v k) action.SetVariable)
      where
        unless_read : (b : Bool) → flat_map written_reference (option_to_list (if b then Some (argument.Through v k) else None)) ≡ []
        unless_read true = refl
        unless_read false = refl

    added : (m : Option Argument) → flat_map written_reference (option_to_list (read_by action.AddItem m)) ≡ flat_map written_reference (option_to_list m)
    added None = refl
    added (Some (argument.Direct x)) = refl
    added (Some (argument.Receiver v)) = refl
    added (Some (argument.Through v k)) = refl

    by : (n : ActionName) (xs : List Argument) → flat_map written_reference (option_to_list (read_by n (argument_of (says n) xs))) ≡ handed_by (says n) xs
    by action.SetVariable xs = set (slice_get xs 0) ∙ sym (append-nil (flat_map written_reference (option_to_list (slice_get xs 0))))
    by action.AddItem xs = added (slice_get xs 1) ∙ sym (append-nil (flat_map written_reference (option_to_list (slice_get xs 1))))
    by _ xs = refl

pub held_put : (qs : List ObjRef) (p : Fixed) → with_references (with_references qs (firsts p)) (flat_map handed (actions p)) ≡ with_references qs (held_of p)
held_put qs p = with_more qs (firsts p) (flat_map handed (actions p))

-- Sets one behind the other.

sets_split : (k j : ℕ) (ps qs : List Fixed) → sets_in k j (ps ++ qs) ≡ sets_in k j ps ++ sets_in k (j + length ps) qs
sets_split k j [] qs = ap (λ (n : ℕ). sets_in k n qs) same
  where
    same : j ≡ j + 0
    same = omega arith
sets_split k j (p ∷ ps) qs = by (is_holder p.class) (sets_split k (suc j) ps qs ∙ ap (λ (n : ℕ). sets_in k (suc j) ps ++ sets_in k n qs) next)
  where
    next : suc j + length ps ≡ j + suc (length ps)
    next = omega arith

    by : (b : Bool) → sets_in k (suc j) (ps ++ qs) ≡ sets_in k (suc j) ps ++ sets_in k (j + suc (length ps)) qs → cond b (set.Held k j ∷ sets_in k (suc j) (ps ++ qs)) (sets_in k (suc j) (ps ++ qs)) ≡ cond b (set.Held k j ∷ sets_in k (suc j) ps) (sets_in k (suc j) ps) ++ sets_in k (j + suc (length ps)) qs
    by true ih = ap (λ (t : List Set). set.Held k j ∷ t) ih
    by false ih = ih

pub sets_length : (k j : ℕ) (ps : List Fixed) → length (sets_in k j ps) ≡ length (holders ps)
sets_length k j [] = refl
sets_length k j (p ∷ ps) = by (is_holder p.class) (sets_length k (suc j) ps)
  where
    by : (b : Bool) → length (sets_in k (suc j) ps) ≡ length (holders ps) → length (cond b (set.Held k j ∷ sets_in k (suc j) ps) (sets_in k (suc j) ps)) ≡ length (cond b (p ∷ holders ps) (holders ps))
    by true ih = ap suc ih
    by false ih = ih

-- those of the application, and those of the scene
pub sets_joined : (k : ℕ) (old mid new : List Set) (ps qs : List Fixed) → mid ≡ old ++ sets_in k 0 ps → new ≡ mid ++ sets_in k (length ps) qs → new ≡ old ++ sets_in k 0 (ps ++ qs)
sets_joined k old mid new ps qs e f =
    f
    ∙ ap (λ (t : List Set). t ++ sets_in k (length ps) qs) e
    ∙ behind old (sets_in k 0 ps) _
    ∙ ap (λ (n : ℕ). old ++ (sets_in k 0 ps ++ sets_in k n qs)) count
    ∙ ap (λ (t : List Set). old ++ t) (sym (sets_split k 0 ps qs))
  where
    count : length ps ≡ 0 + length ps
    count = omega arith

pub held_length : (k j : ℕ) (old new : List Set) (ps : List Fixed) → new ≡ old ++ sets_in k j ps → length new ≡ length old + length (holders ps)
held_length k j old new ps e = ap length e ∙ length-append old (sets_in k j ps) ∙ ap (λ (n : ℕ). length old + n) (sets_length k j ps)

led_next : (k n : ℕ) (cs : List Config) → n < length cs → led_from k (drop n cs) ≡ set.Led k ∷ led_from (suc k) (drop (suc n) cs)
led_next k n [] less = absurd (omega (arith, less))
led_next k zero (c ∷ cs) less = refl
led_next k (suc n) (c ∷ cs) less = led_next k n cs (omega (arith, less))

pub led_behind : (old : List Set) (n : ℕ) (cs : List Config) → n < length cs → (old ++ set.Led n ∷ []) ++ led_from (n + 1) (drop (n + 1) cs) ≡ old ++ led_from n (drop n cs)
led_behind old n cs less =
    behind old (set.Led n ∷ []) _
    ∙ ap (λ (m : ℕ). old ++ set.Led n ∷ led_from m (drop m cs)) one
    ∙ ap (λ (t : List Set). old ++ t) (sym (led_next n n cs less))
  where
    one : n + 1 ≡ suc n
    one = omega arith

led_length : (k : ℕ) (cs : List Config) → length (led_from k cs) ≡ length cs
led_length k [] = refl
led_length k (c ∷ cs) = ap suc (led_length (suc k) cs)

pub first_length : (sets : List Set) (cs : List Config) → sets ≡ first_sets cs → length sets ≡ suc (length cs)
first_length sets cs e = ap length e ∙ ap suc (led_length 0 cs)

-- Configurations.

config_key : (c d : Config) → (bytes_eq c.app d.app && option_eq bytes_eq c.scene d.scene) ≡ same_config c d
config_key c d = ap (λ (b : Bool). bytes_eq c.app d.app && b) (by c.scene d.scene)
  where
    by : (a b : Option (List ℕ)) → option_eq bytes_eq a b ≡ same_scene a b
    by None None = refl
    by None (Some h) = refl
    by (Some g) None = refl
    by (Some g) (Some h) = refl

position_keys : {X : Type 0} (t : Config → Bool) (es : List (Config × X)) → position t (map (λ e. e.0) es) ≡ position (λ e. t e.0) es
position_keys t [] = refl
position_keys {X} t (e ∷ es) =
    position_next t e.0 (map (λ x. x.0) es)
    ∙ ap (λ (o : Option ℕ). cond (t e.0) (Some 0) (option_map suc o)) (position_keys t es)
    ∙ sym (position_next (λ (x : Config × X). t x.0) e es)

pub number_by_key : (c : Config) (es : List (Config × Bases)) → position (λ d. bytes_eq c.app d.app && option_eq bytes_eq c.scene d.scene) (map (λ e. e.0) es) ≡ position (λ e. same_config c e.0) es
number_by_key c es = position_keys (λ d. bytes_eq c.app d.app && option_eq bytes_eq c.scene d.scene) es ∙ (λ i. position (λ e. config_key c e.0 i) es)

pub lookup_by_key : {X : Type 0} (c : Config) (es : List (Config × X)) → lookup (λ d. bytes_eq c.app d.app && option_eq bytes_eq c.scene d.scene) es ≡ lookup (same_config c) es
lookup_by_key c es = λ i. lookup (λ d. config_key c d i) es

-- what is not among the names is not found
none_named : {X : Type 0} (t : Config → Bool) (es : List (Config × X)) → list_any t (map (λ e. e.0) es) ≡ false → lookup t es ≡ None
none_named t [] h = refl
none_named {X} t (e ∷ es) h = by (t e.0) refl h (none_named t es)
  where
    by : (b : Bool) → t e.0 ≡ b → (b || list_any t (map (λ x. x.0) es)) ≡ false → (list_any t (map (λ x. x.0) es) ≡ false → lookup t es ≡ None) → cond b (Some e.1) (lookup t es) ≡ None
    by true is h ih = cc
    by false is h ih = ih h

pub new_config : (c : Config) (es : List (Config × Bases)) → list_any (same_config c) (map (λ e. e.0) es) ≡ false → lookup (λ d. bytes_eq c.app d.app && option_eq bytes_eq c.scene d.scene) es ≡ None
new_config c es h = lookup_by_key c es ∙ none_named (same_config c) es h

config_symm : (c d : Config) → same_config c d ≡ same_config d c
config_symm c d = (λ i. nat_list_eq_equiv.symm c.app d.app i && by c.scene d.scene i)
  where
    by : (a b : Option (List ℕ)) → same_scene a b ≡ same_scene b a
    by None None = refl
    by None (Some h) = refl
    by (Some g) None = refl
    by (Some g) (Some h) = nat_list_eq_equiv.symm g h

-- one is none of those before it, where each is there once
none_before : (cs : List Config) (c : Config) (ds : List Config) → IsDistinct same_config (cs ++ c ∷ ds) → list_any (same_config c) cs ≡ false
none_before [] c ds once = refl
none_before (b ∷ cs) c ds once = rw (config_symm c b, apart cs (IsDistinct-head same_config b (cs ++ c ∷ ds) once)) (none_before cs c ds (IsDistinct-tail same_config b (cs ++ c ∷ ds) once))
  where
    apart : (xs : List Config) → AllByRecursion (λ y. same_config b y ≡ false) (xs ++ c ∷ ds) → same_config b c ≡ false
    apart [] all = all.0
    apart (x ∷ xs) all = apart xs all.1

based_names : (v : Service) (n : ℕ) (cs : List Config) → map (λ e. e.0) (based v n cs) ≡ cs
based_names v n [] = refl
based_names v n (c ∷ cs) = ap (λ (t : List Config). c ∷ t) (based_names v (n + length (holders (present v c))) cs)

pub numbered_once : (v : Service) (es : List (Config × Bases)) (n m : ℕ) (c : Config) (cs all : List Config) → es ++ based v n (c ∷ cs) ≡ based v m all → IsDistinct same_config all → list_any (same_config c) (map (λ e. e.0) es) ≡ false
numbered_once v es n m c cs all e once = none_before (map (λ x. x.0) es) c cs (subst (λ (t : List Config). IsDistinct same_config t) names once)
  where
    names : all ≡ map (λ x. x.0) es ++ c ∷ cs
    names = sym (based_names v m all) ∙ ap (map (λ x. x.0)) (sym e) ∙ map-append (λ x. x.0) es (based v n (c ∷ cs)) ∙ ap (λ (t : List Config). map (λ x. x.0) es ++ c ∷ t) (based_names v (n + length (holders (present v c))) cs)

-- one configuration more
pub numbered_next : (v : Service) (es new : List (Config × Bases)) (old sets : List Set) (c : Config) (b : Bases) (k : ℕ) (cs : List Config) → new ≡ es ++ (c, b) ∷ [] → b ≡ bases_of v (length old) c → sets ≡ old ++ sets_in k 0 (present v c) → new ++ based v (length sets) cs ≡ es ++ based v (length old) (c ∷ cs)
numbered_next v es new old sets c b k cs e f g =
    (λ i. e i ++ based v (held_length k 0 old sets (present v c) g i) cs)
    ∙ behind es ((c, b) ∷ []) _
    ∙ ap (λ (x : Bases). es ++ (c, x) ∷ based v (length old + length (holders (present v c))) cs) f

pub sets_next : (v : Service) (es new : List (Config × Bases)) (old sets : List Set) (c : Config) (b : Bases) (k : ℕ) (cs : List Config) → new ≡ es ++ (c, b) ∷ [] → k ≡ length es → sets ≡ old ++ sets_in k 0 (present v c) → sets ++ sets_from v (length new) cs ≡ old ++ sets_from v (length es) (c ∷ cs)
sets_next v es new old sets c b k cs e f g =
    (λ i. (g ∙ ap (λ (n : ℕ). old ++ sets_in n 0 (present v c)) f) i ++ sets_from v (more i) cs)
    ∙ behind old (sets_in (length es) 0 (present v c)) _
  where
    more : length new ≡ suc (length es)
    more = ap length e ∙ length-append es ((c, b) ∷ []) ∙ one (length es)
      where
        one : (n : ℕ) → n + 1 ≡ suc n
        one n = omega arith

-- The number of an object's set.

-- behind this number, where the object has this home
abbrev pub node_there : Bool → ℕ → Option Home → Option ℕ
node_there t base h = cond t (option_and_then (λ x. sum_of base x.place) h) None

pub node_is : (v : Service) (c : Config) (r : ObjRef) (b : Bases) → AreNamed v → node_from v c r b ≡ option_or (node_there (bytes_eq r.group c.app) b.application (lookup (same_ref r) (held_index v))) (node_there (same_scene c.scene (Some r.group)) b.scene (lookup (same_ref r) (held_index v)))
node_is v c r b named = λ i. option_or (there b.application (group_parts v c.app) (bytes_eq r.group c.app) (holder_place v r c.app named) i) (there b.scene (scene_parts v c.scene) (same_scene c.scene (Some r.group)) (holder_place_in_scene v r c.scene named) i)
  where
    there : (base : ℕ) (ps : List Fixed) (t : Bool) → place_in (holders ps) r ≡ cond t (option_map (λ x. x.place) (lookup (same_ref r) (held_index v))) None → node_at base ps r ≡ node_there t base (lookup (same_ref r) (held_index v))
    there base ps t e = ap (option_and_then (sum_of base)) e ∙ by t (lookup (same_ref r) (held_index v))
      where
        by : (b : Bool) (h : Option Home) → option_and_then (sum_of base) (cond b (option_map (λ x. x.place) h) None) ≡ node_there b base h
        by true None = refl
        by true (Some x) = refl
        by false h = refl

pub no_node : (t u : Bool) (a b : ℕ) → None ≡ option_or (node_there t a None) (node_there u b None)
no_node true true a b = refl
no_node true false a b = refl
no_node false true a b = refl
no_node false false a b = refl

-- Bounds

configs_fewer : (v : Service) (n : ℕ) (cs : List Config) → length (based v n cs) ≡ length cs
configs_fewer v n [] = refl
configs_fewer v n (c ∷ cs) = ap suc (configs_fewer v (n + length (holders (present v c))) cs)

-- each configuration has a set of those to which it leads
pub led_fits : (v : Service) (ch : Chart) (k : ℕ) (e : Config × Bases) → IsChart v ch → slice_get ch.configs k ≡ Some e → k + 1 < 2 ^ 64
led_fits v ch k e is at =
    let within : k < length ch.configs = got ch.configs k e at in
    let configs : length ch.configs ≡ length (configurations v) = ap length is.configs ∙ configs_fewer v _ (configurations v) in
    let sets : length ch.sets ≡ suc (length (configurations v)) + length (sets_from v 0 (configurations v)) = ap length is.sets ∙ length-append (first_sets (configurations v)) _ ∙ ap (λ (n : ℕ). n + length (sets_from v 0 (configurations v))) (first_length (first_sets (configurations v)) (configurations v) refl) in
    let fits : length ch.sets < 2 ^ 64 = is.fits in
    omega (arith, within, configs, sets, fits)
  where
    got : {X : Type 0} (xs : List X) (n : ℕ) (x : X) → slice_get xs n ≡ Some x → n < length xs
    got [] n x h = cc
    got (y ∷ ys) zero x h = omega arith
    got (y ∷ ys) (suc n) x h = omega (arith, got ys n x h)

-- Loops that put references.

pub part_more : (f : Fixed → List ObjRef) (qs new : List ObjRef) (p : Fixed) (ps all : List Fixed) → new ≡ with_references qs (f p) → all ≡ p ∷ ps → with_references new (flat_map f ps) ≡ with_references qs (flat_map f all)
part_more f qs new p ps all e more =
    ap (λ (t : List ObjRef). with_references t (flat_map f ps)) e
    ∙ with_more qs (f p) (flat_map f ps)
    ∙ ap (λ (t : List Fixed). with_references qs (flat_map f t)) (sym more)

pub parts_more : (f : Fixed → List ObjRef) (qs new : List ObjRef) (ps : List Fixed) (groups all : List (List Fixed)) → new ≡ with_references qs (flat_map f ps) → all ≡ ps ∷ groups → with_references new (flat_map f (flat_map (λ x. x) groups)) ≡ with_references qs (flat_map f (flat_map (λ x. x) all))
parts_more f qs new ps groups all e more =
    ap (λ (t : List ObjRef). with_references t (flat_map f (flat_map (λ x. x) groups))) e
    ∙ with_more qs (flat_map f ps) (flat_map f (flat_map (λ x. x) groups))
    ∙ ap (with_references qs) (sym (flat_map-append f ps (flat_map (λ x. x) groups)))
    ∙ ap (λ (t : List (List Fixed)). with_references qs (flat_map f (flat_map (λ x. x) t))) (sym more)

pub parts_all : (gs : List (List ℕ × List Fixed)) → flat_map (λ (ps : List Fixed). ps) (map (λ (g : List ℕ × List Fixed). g.1) gs) ≡ flat_map (λ (g : List ℕ × List Fixed). g.1) gs
parts_all [] = refl
parts_all (g ∷ gs) = ap (λ (t : List Fixed). g.1 ++ t) (parts_all gs)

-- what is among references that were put

or_false : (b : Bool) → b ≡ (b || false)
or_false true = refl
or_false false = refl

any_last : (q r : ObjRef) (qs : List ObjRef) → list_any (same_ref q) (qs ++ r ∷ []) ≡ (list_any (same_ref q) qs || same_ref q r)
any_last q r [] = sym (or_false (same_ref q r))
any_last q r (x ∷ qs) = by (same_ref q x) (any_last q r qs)
  where
    by : (b : Bool) → list_any (same_ref q) (qs ++ r ∷ []) ≡ (list_any (same_ref q) qs || same_ref q r) → (b || list_any (same_ref q) (qs ++ r ∷ [])) ≡ ((b || list_any (same_ref q) qs) || same_ref q r)
    by true ih = refl
    by false ih = ih

any_one : (q r : ObjRef) (qs : List ObjRef) → list_any (same_ref q) (with_reference qs r) ≡ (list_any (same_ref q) qs || same_ref q r)
any_one q r qs = by (list_any (same_ref r) qs) refl
  where
    there : (t : Bool) → same_ref q r ≡ t → list_any (same_ref r) qs ≡ true → list_any (same_ref q) qs ≡ (list_any (same_ref q) qs || t)
    there true e h =
        let among : list_any (same_ref q) qs ≡ true = subst (λ (x : ObjRef). list_any (same_ref x) qs ≡ true) (sym (same_ref-same q r e)) h in
        rw among refl
    there false e h = or_false (list_any (same_ref q) qs)

    by : (b : Bool) → list_any (same_ref r) qs ≡ b → list_any (same_ref q) (cond b qs (qs ++ r ∷ [])) ≡ (list_any (same_ref q) qs || same_ref q r)
    by true h = there (same_ref q r) refl h
    by false h = any_last q r qs

pub any_references : (q : ObjRef) (qs rs : List ObjRef) → list_any (same_ref q) (with_references qs rs) ≡ (list_any (same_ref q) qs || list_any (same_ref q) rs)
any_references q qs [] = or_false (list_any (same_ref q) qs)
any_references q qs (r ∷ rs) =
    any_references q (with_reference qs r) rs
    ∙ ap (λ (b : Bool). b || list_any (same_ref q) rs) (any_one q r qs)
    ∙ joined (list_any (same_ref q) qs) (same_ref q r) (list_any (same_ref q) rs)
  where
    joined : (a b c : Bool) → ((a || b) || c) ≡ (a || (b || c))
    joined true b c = refl
    joined false b c = refl

-- Parts of a chart.

-- what a call ensures of its answer, where that is known
pub ok_of : {A E : Type 0} (r : Result A E) (x : A) (P : A → Type 0) → r ≡ Ok x → IfOk r P → P x
ok_of {A = A} {E = E} r x P is h = subst (λ (r : Result A E). IfOk r P) is h
