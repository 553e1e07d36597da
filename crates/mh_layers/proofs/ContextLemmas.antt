-- What is asked of a configuration of a numbered service.
use Rattle.std.specs.Prelude.{◌≡◌, ℕ, Bool, true, false, ◌&&◌, ◌||◌, if◌then◌else◌, cond, List, [], ◌∷◌, ◌++◌, length, map, slice_get, position, unwrap_or, Option, Some, None, refl}
use Rattle.std.specs.List.{list_any}
use Rattle.std.specs.Option.{is_some, option_eq, option_map}
use Rattle.std.specs.Str.{bytes_eq}
use Rattle.std.proofs.Common.{ap, ◌∙◌, sym}
use Rattle.std.proofs.lemmas.Option.{get_or_from_slice_get}
use Rattle.indexmap.specs.IndexSet.{insert_all, insert_key}
use Rattle.mh_base.specs.declared.obj_ref.ObjRef.{ObjRef}
use Rattle.mh_base.specs.declared.value.Value.{Value}
use Rattle.mh_group.specs.Table.{is_application}
use Rattle.mh_model.specs.declared.config.Config.{Config}
use Rattle.mh_model.specs.declared.object.Fixed.{Fixed}
use Rattle.mh_model.specs.Configuration.{is_group_of, present, same_config, same_scene}
use Rattle.mh_model.specs.Service.{Service}
use Rattle.mh_model.proofs.ListLemmas.{some_same}
use Rattle.mh_laws.specs.Flow.{reached}
use Rattle.mh_laws.specs.Safe.{exchanged}
use Rattle.mh_laws.specs.Ways.{Sure}
use Rattle.mh_model.specs.Variables.{same_value}
use Rattle.mh_layers.specs.CostNode.{Plain, With}
use Rattle.mh_laws.proofs.NodeLemmas.{config_among}
use Rattle.mh_flow.specs.Solved.{held_by, held_in}
use Rattle.mh_flow.proofs.HeldLemmas.{get_mapped, held_is_set}
use Rattle.mh_layers.specs.declared.numbered_node.Hears.TheVariants as hears
use Rattle.mh_layers.specs.CostNodes.{hearing}
use Rattle.mh_layers.specs.Reading.{IsReading, IsContext, Reading, config_named, flow_read, hears_among, no_config, no_object, object_named, same_setting, setting, settings, context_at, context_in}
use Rattle.mh_layers.proofs.PositionLemmas.{any_position, no_left, no_right, once_all, once_at, position_is, put_all}
use Rattle.mh_layers.proofs.ReadingLemmas.{setting_itself, tells_settings}

pub is_context : (r : Reading) → IsReading r → (n : ℕ) (c : Config) (ps : List Fixed) (lists : List (List ObjRef)) → slice_get (settings r) n ≡ Some c → slice_get (map (held_in r.service r.flow) (settings r)) n ≡ Some lists → ps ≡ present r.service c
    → IsContext (record { reading = r; config = c }) n ps lists
is_context r read n c ps lists at held there = record {
  read = read;
  place = sym (ap (λ (o : Option ℕ). unwrap_or o (length (settings r))) (once_at same_setting tells_settings (settings r) (once_all same_setting [] (flow_read r).configs tt) n c at));
  there = there;
  sets = λ i o. (ap (λ (x : List (List ObjRef)). held_by (present r.service c) x o) same ∙ held_is_set r.service r.flow c o) i;
}
  where
    own : Some lists ≡ Some (held_in r.service r.flow c)
    own = sym held ∙ get_mapped (held_in r.service r.flow) (settings r) n ∙ ap (option_map (held_in r.service r.flow)) at

    same : lists ≡ held_in r.service r.flow c
    same = some_same own

pub named_context : (r : Reading) (n : ℕ) (c : Config) → slice_get (settings r) n ≡ Some c → context_in r c ≡ context_at r n
named_context r n c at =
    let same : c ≡ config_named r n = sym (get_or_from_slice_get (settings r) n c (no_config (settings r)) at) in
    λ i. record { reading = r; config = same i }

-- what is reached has a number, and nothing else

neither : (a b : Bool) → a ≡ false → b ≡ false → (a || b) ≡ false
neither true b e f = e
neither false b e f = f

any_put : {X : Type 0} (same : X → X → Bool) (t : X → Bool) (ks : List X) (x : X) → list_any t ks ≡ false → t x ≡ false → list_any t (insert_key same ks x) ≡ false
any_put {X} same t ks x none fails = by (list_any (same x) ks)
  where
    last : (ys : List X) → list_any t ys ≡ false → list_any t (ys ++ x ∷ []) ≡ false
    last [] e = ap (λ (b : Bool). b || false) fails
    last (y ∷ ys) e = neither (t y) (list_any t (ys ++ x ∷ [])) (no_left (t y) (list_any t ys) e) (last ys (no_right (t y) (list_any t ys) e))

    by : (b : Bool) → list_any t (cond b ks (ks ++ x ∷ [])) ≡ false
    by true = none
    by false = last ks none

any_inserted : {X : Type 0} (same : X → X → Bool) (t : X → Bool) (ks xs : List X) → list_any t ks ≡ false → list_any t xs ≡ false → list_any t (insert_all same ks xs) ≡ false
any_inserted same t ks [] none fails = none
any_inserted same t ks (x ∷ xs) none fails =
    any_inserted same t (insert_key same ks x) xs (any_put same t ks x none (no_left (t x) (list_any t xs) fails)) (no_right (t x) (list_any t xs) fails)

setting_is : (c d : Config) → same_setting c d ≡ same_config c d
setting_is c d = ap (λ (b : Bool). bytes_eq c.app d.app && b) (by c.scene d.scene)
  where
    by : (a b : Option (List ℕ)) → option_eq bytes_eq a b ≡ same_scene a b
    by None None = refl
    by None (Some h) = refl
    by (Some g) None = refl
    by (Some g) (Some h) = refl

pub reached_numbered : (r : Reading) (c : Config) → reached (flow_read r) c ≡ is_some (position (same_setting c) (settings r))
reached_numbered r c = by (reached (flow_read r) c) refl ∙ any_position (same_setting c) (settings r)
  where
    by : (b : Bool) → reached (flow_read r) c ≡ b → reached (flow_read r) c ≡ list_any (same_setting c) (settings r)
    by true e = e ∙ sym (put_all same_setting setting_itself [] (flow_read r).configs c (config_among (flow_read r).configs c e))
    by false e = e ∙ sym (any_inserted same_setting (same_setting c) [] (flow_read r).configs refl ((λ i. list_any (λ d. setting_is c d i) (flow_read r).configs) ∙ e))

-- what stands at a number has its name

pub got_there : (r : Reading) (n : ℕ) (o : ObjRef) → slice_get r.listeners.objects n ≡ Some o → o ≡ object_named r n
got_there r n o at = sym (get_or_from_slice_get r.listeners.objects n o (no_object r.listeners.objects) at)

pub named_in : (r : Reading) (c : Config) (n : ℕ) → position (same_setting c) (settings r) ≡ Some n → context_at r n ≡ context_in r c
named_in r c n at =
    let same : config_named r n ≡ c = get_or_from_slice_get (settings r) n c (no_config (settings r)) (position_is same_setting tells_settings (settings r) c n at) in
    λ i. record { reading = r; config = same i }

-- what is known of an event's data, by the number of the value

pub not_named : (xs : List Value) (x : Value) → position (same_value x) xs ≡ None → hears_among xs (hearing xs (Sure (Some x))) ≡ hears.Plain
not_named xs x e = ap (λ (b : Bool). hears_among xs (if b then With x else Plain)) (any_position (same_value x) xs ∙ ap is_some e)

pub named_there : (xs : List Value) (x : Value) (n : ℕ) → position (same_value x) xs ≡ Some n → hears_among xs (hearing xs (Sure (Some x))) ≡ hears.With n
named_there xs x n e =
    ap (λ (b : Bool). hears_among xs (if b then With x else Plain)) (any_position (same_value x) xs ∙ ap is_some e)
    ∙ ap (λ (o : Option ℕ). hears.With (unwrap_or o (length xs))) e

-- where a group is entered from here

pub to_application : (v : Service) (c : Config) (g : List ℕ) → is_group_of is_application v g ≡ true → exchanged v c g ≡ setting g None
to_application v c g is = ap (λ (b : Bool). if b then setting g None else setting c.app (Some g)) is

pub to_scene : (v : Service) (c : Config) (g : List ℕ) → is_group_of is_application v g ≡ false → exchanged v c g ≡ setting c.app (Some g)
to_scene v c g other = ap (λ (b : Bool). if b then setting g None else setting c.app (Some g)) other
