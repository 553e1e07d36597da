-- Numbers and names are one for the other.
use Rattle.std.specs.Prelude.{◌≡◌, ℕ, Bool, true, false, ◌&&◌, List, [], length, get_or, position, unwrap_or, option_and_then, Option, Some, None, refl}
use Rattle.std.specs.Option.{option_eq, option_map, option_map_or}
use Rattle.std.specs.Str.{bytes_eq}
use Rattle.std.proofs.Common.{inl, ap, ◌∙◌, sym}
use Rattle.std.proofs.lemmas.Option.{get_or_from_slice_get}
use Rattle.std.proofs.lemmas.Slice.Eq.{bytes_eq-Decides}
use Rattle.mh_base.specs.declared.obj_ref.ObjRef.{ObjRef}
use Rattle.mh_base.specs.declared.value.Value.{Value}
use Rattle.mh_base.specs.declared.event.EventType.{EventType}
use Rattle.mh_group.specs.Table.{is_list_group}
use Rattle.mh_model.specs.declared.config.Config.{Config}
use Rattle.mh_model.specs.declared.object.Fixed.{Fixed}
use Rattle.mh_model.specs.Configuration.{present}
use Rattle.mh_model.specs.Reference.{same_key}
use Rattle.mh_model.specs.Service.{is_there, part_at}
use Rattle.mh_model.specs.Variables.{same_value}
use Rattle.mh_model.proofs.ListLemmas.{and_left, and_right}
use Rattle.mh_laws.specs.Flow.{is_list_in, reached}
use Rattle.mh_laws.proofs.NodeLemmas.{config_among}
use Rattle.mh_layers.specs.CostNode.{CostNode, Effect, Fired, Entry, Change, Leave, Enter, Taken, Hearing, Plain, With, Any}
use Rattle.mh_layers.specs.CostNodes.{IsKept, is_named, values}
use Rattle.mh_layers.specs.Listening.{ear_at, same_ear}
use Rattle.std.specs.Map.{lookup}
use Rattle.mh_layers.specs.Reading.{IsReading, NumbersAreNames, Reading, config_named, config_number, flow_read, heard_read, hearing_named, hears_number, name, no_config, no_object, no_value, number, object_named, object_number, place_among, same_setting, settings, value_named}
use Rattle.mh_layers.proofs.ListeningLemmas.{objects_numbered, present_among, tells_objects, tells_values}
use Rattle.mh_layers.proofs.MetLemmas.{found_among, there_found}
use Rattle.mh_layers.proofs.PositionLemmas.{TellsOne, position_is, position_there, put_all}

-- what has a place is found there
back_at : {X : Type 0} (same : X → X → Bool) → TellsOne same → (xs : List X) (a d : X) (n : ℕ) → position (same a) xs ≡ Some n → get_or xs (place_among (same a) xs) d ≡ a
back_at same tells xs a d n at =
    ap (λ (o : Option ℕ). get_or xs (unwrap_or o (length xs)) d) at
    ∙ get_or_from_slice_get xs n a d (position_is same tells xs a n at)

-- configurations

pub setting_itself : (c : Config) → same_setting c c ≡ true
setting_itself c = both (bytes_eq c.app c.app) (option_eq bytes_eq c.scene c.scene) ((bytes_eq-Decides c.app c.app).1 refl) (scene c.scene)
  where
    scene : (o : Option (List ℕ)) → option_eq bytes_eq o o ≡ true
    scene None = refl
    scene (Some g) = (bytes_eq-Decides g g).1 refl

    both : (a b : Bool) → a ≡ true → b ≡ true → (a && b) ≡ true
    both true b e f = f
    both false b e f = e

setting_one : (c d : Config) → same_setting c d ≡ true → c ≡ d
setting_one c d h =
    let apps : c.app ≡ d.app = (bytes_eq-Decides c.app d.app).0 (and_left (bytes_eq c.app d.app) (option_eq bytes_eq c.scene d.scene) h) in
    let scenes : c.scene ≡ d.scene = scene c.scene d.scene (and_right (bytes_eq c.app d.app) (option_eq bytes_eq c.scene d.scene) h) in
    λ i. record { app = apps i; scene = scenes i }
  where
    scene : (a b : Option (List ℕ)) → option_eq bytes_eq a b ≡ true → a ≡ b
    scene None None e = refl
    scene (Some g) (Some k) e = ap Some ((bytes_eq-Decides g k).0 e)
    scene None (Some g) e = absurd cc
    scene (Some g) None e = absurd cc

pub tells_settings : TellsOne same_setting
tells_settings = record { itself = setting_itself; one = setting_one }

config_back : (r : Reading) (c : Config) → reached (flow_read r) c ≡ true → config_named r (config_number r c) ≡ c
config_back r c here =
    let at = position_there (same_setting c) (settings r) (put_all same_setting setting_itself [] (flow_read r).configs c (config_among (flow_read r).configs c here)) in
    back_at same_setting tells_settings (settings r) c (no_config (settings r)) at.0 at.1

-- objects

tells_keys : TellsOne same_key
tells_keys = tells_objects

object_at : (r : Reading) (o : ObjRef) (n : ℕ) → position (same_key o) r.listeners.objects ≡ Some n → object_named r (object_number r o) ≡ o
object_at r o n at = back_at same_key tells_keys r.listeners.objects o (no_object r.listeners.objects) n at

object_back : (r : Reading) → IsReading r → (c : Config) (o : ObjRef) → is_there o (present r.service c) ≡ true → object_named r (object_number r o) ≡ o
object_back r read c o there =
    let part = there_found o (present r.service c) there in
    let found = found_among o (present r.service c) part.0 part.1 in
    let at = (objects_numbered r.service r.listeners read.listening).all part.0 o (present_among r.service c part.0 found.1) (inl (sym found.0)) in
    object_at r o at.0 at.1

-- what links wait for has a number
source_back : (r : Reading) (o : ObjRef) (kind : EventType) (g : Hearing) → is_named (heard_read r o kind) g ≡ true → object_named r (object_number r o) ≡ o
source_back r o kind g named = by (position (same_key o) r.listeners.objects) refl named
  where
    by : (p : Option ℕ) → position (same_key o) r.listeners.objects ≡ p → is_named (option_and_then (λ e. lookup (same_ear e) r.listeners.ears) (option_map (λ n. ear_at n kind) p)) g ≡ true → object_named r (object_number r o) ≡ o
    by None e h = absurd cc
    by (Some n) e h = object_at r o n e

-- a list is there
pub list_there : (r : Reading) (c : Config) (o : ObjRef) → is_list_in (present r.service c) o ≡ true → is_there o (present r.service c) ≡ true
list_there r c o list = by (part_at o (present r.service c)) list
  where
    by : (p : Option Fixed) → option_map_or is_list_group (option_map (λ (x : Fixed). x.class) p) false ≡ true → option_map_or (λ (x : Fixed). true) p false ≡ true
    by None h = h
    by (Some x) h = refl

-- what is heard

hearing_back : (r : Reading) (o : ObjRef) (kind : EventType) (g : Hearing) → is_named (heard_read r o kind) g ≡ true → hearing_named r o kind (hears_number r o kind g) ≡ g
hearing_back r o kind Plain named = refl
hearing_back r o kind Any named = refl
hearing_back r o kind (With x) named = by (heard_read r o kind) named
  where
    by : (h : Option (List Value)) → is_named h (With x) ≡ true → With (value_named (values h) (place_among (same_value x) (values h))) ≡ With x
    by None e = absurd cc
    by (Some xs) e =
        let at = position_there (same_value x) xs e in
        ap With (back_at same_value tells_values xs x (no_value xs) at.0 at.1)

hears_back : (r : Reading) (o : ObjRef) (kind : EventType) (g : Hearing) → object_named r (object_number r o) ≡ o → is_named (heard_read r o kind) g ≡ true
    → hearing_named r (object_named r (object_number r o)) kind (hears_number r o kind g) ≡ g
hears_back r o kind g same named =
    ap (λ (q : ObjRef). hearing_named r q kind (hears_number r o kind g)) same ∙ hearing_back r o kind g named

-- nodes

back : (r : Reading) → IsReading r → (k : CostNode) → IsKept r.service (flow_read r) (heard_read r) k → name r (number r k) ≡ k
back r read (Effect c o n) kept =
    let config = config_back r c kept.0 in
    let object = object_back r read c o kept.1 in
    λ i. Effect (config i) (object i) n
back r read (Fired c o kind g) kept =
    let config = config_back r c kept.0 in
    let object = object_back r read c o kept.1 in
    let hearing = hears_back r o kind g object kept.2 in
    λ i. Fired (config i) (object i) kind (hearing i)
back r read (Entry o kind g) kept =
    let object = source_back r o kind g kept in
    let hearing = hears_back r o kind g object kept in
    λ i. Entry (object i) kind (hearing i)
back r read (Change c o) kept =
    let config = config_back r c kept.0 in
    let object = object_back r read c o (list_there r c o kept.1) in
    λ i. Change (config i) (object i)
back r read (Leave c all) kept =
    let config = config_back r c kept in
    λ i. Leave (config i) all
back r read (Enter c) kept =
    let config = config_back r c kept in
    λ i. Enter (config i)
back r read (Taken c k) kept =
    let config = config_back r c kept.0 in
    λ i. Taken (config i) k

pub numbers_are_names : NumbersAreNames
numbers_are_names r read = record {
  back = back r read;
  prices = λ n kept. refl;
}
