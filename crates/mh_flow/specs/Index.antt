-- The objects of a service under their references, each with its place in its group.
use Rattle.std.specs.Prelude.{◌≡◌, ℕ, suc, Bool, true, ◌||◌, if◌then◌else◌, List, [], ◌∷◌, ◌++◌, filter, map, Some}
use Rattle.std.specs.List.{IsDistinct}
use Rattle.std.specs.Map.{lookup}
use Rattle.std.specs.Option.{is_some}
use Rattle.std.specs.Str.{bytes_eq}
use Rattle.mh_base.specs.declared.obj_ref.ObjRef.{ObjRef}
use Rattle.mh_model.specs.declared.config.Config.{Config}
use Rattle.mh_model.specs.declared.object.Fixed.{Fixed}
use Rattle.mh_model.specs.Reference.{same_ref}
use Rattle.mh_model.specs.Configuration.{is_service, same_scene, scene_parts}
use Rattle.mh_model.specs.Service.{Service, group_parts}
use Rattle.mh_laws.specs.Flow.{is_holder}

-- what is said of an object, and how many stand before it in its group
pub record Home : Type 0 where
  pub part : Fixed
  pub place : ℕ

-- an object under its reference, unless there is one already
abbrev pub with_home : List (ObjRef × Home) → ℕ → Fixed → List (ObjRef × Home)
with_home es n p = if is_some (lookup (same_ref p.key) es) then es else es ++ (p.key, record { part = p; place = n }) ∷ []

-- those of a group, from this place on
abbrev pub with_homes : List (ObjRef × Home) → ℕ → List Fixed → List (ObjRef × Home)
with_homes es n [] = es
with_homes es n (p ∷ ps) = with_homes (with_home es n p) (suc n) ps

abbrev pub with_groups : List (ObjRef × Home) → List (List Fixed) → List (ObjRef × Home)
with_groups es [] = es
with_groups es (ps ∷ groups) = with_groups (with_homes es 0 ps) groups

abbrev pub indexed : Service → List (ObjRef × Home)
indexed v = with_groups [] (map (λ e. e.1) v.groups)

-- those that have a set: variables of references, and lists
abbrev pub holders : List Fixed → List Fixed
holders ps = filter (λ p. is_holder p.class) ps

-- they alone, each with its place among those of its group
abbrev pub held_index : Service → List (ObjRef × Home)
held_index v = with_groups [] (map (λ e. holders e.1) v.groups)

-- whether the group is the application or the scene
abbrev pub is_entered : Config → List ℕ → Bool
is_entered c g = bytes_eq g c.app || same_scene c.scene (Some g)

-- each group has a name of its own, and its objects have it in their references
pub record AreNamed (v : Service) : Type 0 where
  pub service : is_service v ≡ true
  pub once : IsDistinct bytes_eq (map (λ e. e.0) v.groups)

-- this is the index of the service, and these are the objects of the application and of the scene
pub record IsPresent (v : Service) (c : Config) (es : List (ObjRef × Home)) (ps qs : List Fixed) : Type 0 where
  pub named : AreNamed v
  pub index : es ≡ indexed v
  pub application : ps ≡ group_parts v c.app
  pub scene : qs ≡ scene_parts v c.scene
