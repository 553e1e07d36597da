-- Configurations of a service: an application with one of the scenes or none, and what is present there.
use Rattle.std.specs.Prelude.{ℕ, Bool, true, false, ◌&&◌, ◌==◌, not, List, [], ◌∷◌, ◌++◌, map, filter, Option, Some, None, nat_le, length}
use Rattle.std.specs.List.{list_all, list_any, flat_map}
use Rattle.std.specs.Option.{option_map_or, is_some}
use Rattle.std.specs.Str.{bytes_eq}
use Rattle.mh_base.specs.declared.obj_ref.ObjRef.{ObjRef}
use Rattle.mh_group.specs.declared.attribute.Attribute.TheVariants as attribute
use Rattle.mh_group.specs.declared.class.Class.{Class}
use Rattle.mh_group.specs.Table.{is_group_class, is_scene, is_application}
use Rattle.mh_model.specs.declared.config.Config.{Config}
use Rattle.mh_model.specs.declared.object.Fixed.{Fixed}
use Rattle.mh_model.specs.Service.{Service, part_at, group_parts, is_in}
use Rattle.mh_model.specs.Reference.{same_ref, group_ref}
use Rattle.mh_model.specs.Property.{held, as_value}
use Rattle.mh_model.specs.Variables.{variable_kind}
use Rattle.mh_model.specs.Effects.{sends_written}

-- the group of this name is of such a class: its object with number 0 is
abbrev pub is_group_of : (Class → Bool) → Service → List ℕ → Bool
is_group_of is_class s g = option_map_or (λ p. is_class p.class) (part_at (group_ref g) (group_parts s g)) false

-- What every service is. The parts of a group begin with the group itself, and no other of them is a
-- group; the start is an application; and each variable has its original value, and each event that is sent
-- is written itself.

abbrev pub is_ingredient_of : List ℕ → Fixed → Bool
is_ingredient_of g p = is_in g p && not (p.key.number == 0) && not (is_group_class p.class)

abbrev pub is_group_list : List ℕ → List Fixed → Bool
is_group_list g [] = false
is_group_list g (p ∷ ps) = is_in g p && p.key.number == 0 && is_group_class p.class && list_all (is_ingredient_of g) ps

-- a variable has its original value
abbrev pub has_value : Fixed → Bool
has_value p = option_map_or (λ k. is_some (as_value (held attribute.OrigValue p.properties))) (variable_kind p.class) true

-- each part of each group passes the test
abbrev pub is_each : (Fixed → Bool) → Service → Bool
is_each is s = list_all (λ e. list_all is e.1) s.groups

unfoldable pub is_service : Service → Bool
is_service s =
    list_all (λ e. is_group_list e.0 e.1) s.groups && is_group_of is_application s s.start && is_each has_value s
    && is_each sends_written s

-- no two parts of a group have one key

abbrev pub is_keyed : ObjRef → List Fixed → Bool
is_keyed r ps = list_any (λ p. same_ref r p.key) ps

abbrev pub are_apart : List Fixed → Bool
are_apart [] = true
are_apart (p ∷ ps) = not (is_keyed p.key ps) && are_apart ps

unfoldable pub has_keys : Service → Bool
has_keys s = list_all (λ e. are_apart e.1) s.groups

-- Configurations.

-- the start application, with no scene
abbrev pub starting : Service → Config
starting s = record { app = s.start; scene = None }

abbrev pub scene_parts : Service → Option (List ℕ) → List Fixed
scene_parts s None = []
scene_parts s (Some g) = group_parts s g

-- what is present, as the files say it: the application's parts, then the scene's
abbrev pub present : Service → Config → List Fixed
present s c = group_parts s c.app ++ scene_parts s c.scene

abbrev pub same_scene : Option (List ℕ) → Option (List ℕ) → Bool
same_scene None None = true
same_scene (Some g) (Some h) = bytes_eq g h
same_scene _ _ = false

abbrev pub same_config : Config → Config → Bool
same_config c d = bytes_eq c.app d.app && same_scene c.scene d.scene

abbrev pub is_among : List Config → Config → Bool
is_among cs c = list_any (same_config c) cs

-- All of them: each application without a scene, and then with each scene, in the order of the groups.

abbrev pub names : (Class → Bool) → Service → List (List ℕ)
names is_class s = filter (is_group_of is_class s) (map (λ e. e.0) s.groups)

abbrev pub with_scenes : List (List ℕ) → List ℕ → List Config
with_scenes scenes app = record { app = app; scene = None } ∷ map (λ g. record { app = app; scene = Some g }) scenes

abbrev pub configurations : Service → List Config
configurations s = flat_map (with_scenes (names is_scene s)) (names is_application s)
