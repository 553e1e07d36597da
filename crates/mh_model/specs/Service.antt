-- Services: groups by their names, each a list of what its file says of its objects, the group itself first.
use Rattle.std.specs.Prelude.{ℕ, Bool, true, false, List, [], map, Option, None, unwrap_or}
use Rattle.std.specs.List.{find}
use Rattle.std.specs.Option.{option_map, option_map_or}
use Rattle.std.specs.Str.{bytes_eq}
use Rattle.mh_base.specs.declared.obj_ref.ObjRef.{ObjRef}
use Rattle.mh_group.specs.declared.written.Written.{Written}
use Rattle.mh_model.specs.declared.object.Fixed.{Fixed}
use Rattle.mh_model.specs.declared.object.Object.{Object}
use Rattle.mh_model.specs.declared.program.Signature.{Signature}
use Rattle.mh_model.specs.Reference.{same_ref}
use Rattle.mh_model.specs.ListItems.{listed_at_first}

-- a finite map from the names of groups to what they say of their objects, and the application to start with;
-- the programs that the receiver has for it besides the built-in ones; each group as its file writes it; and the
-- scenes whose files come late
pub record Service : Type 0 where
  pub groups : List (List ℕ × List Fixed)
  pub start : List ℕ
  pub programs : List Signature
  pub files : List (List ℕ × Written)
  pub late : List (List ℕ)

-- the part to which a reference leads, if it is among these
abbrev pub part_at : ObjRef → List Fixed → Option Fixed
part_at r ps = find (λ p. same_ref r p.key) ps

-- it leads to one of these
abbrev pub is_there : ObjRef → List Fixed → Bool
is_there r ps = option_map_or (λ p. true) (part_at r ps) false

-- the object to which a reference leads, if it is among these
abbrev pub object_at : ObjRef → List Object → Option Object
object_at r os = find (λ o. same_ref r o.fixed.key) os

-- what the files say of these objects
abbrev pub parts : List Object → List Fixed
parts os = map (λ o. o.fixed) os

-- the group's parts as its file gives them; none where the service has no such group
abbrev pub group_parts : Service → List ℕ → List Fixed
group_parts s g = unwrap_or (option_map (λ e. e.1) (find (λ e. bytes_eq e.0 g) s.groups)) []

-- a scene with its parts, if there is one
abbrev pub with_parts : Service → Option (List ℕ) → Option (List ℕ × List Fixed)
with_parts s scene = option_map (λ g. (g, group_parts s g)) scene

-- an object when its group is entered: nothing is changed, and it is neither available nor running
abbrev pub fresh : Fixed → Object
fresh p = record {
  fixed = p;
  body = record {
    value = None;
    changes = [];
    text = None;
    drawings = [];
    available = false;
    running = false;
    token = 1;
    list = listed_at_first p;
    point = 0;
    overwrites = false;
    highlighted = false;
    selected = false;
  };
}

abbrev pub group_objects : Service → List ℕ → List Object
group_objects s g = map fresh (group_parts s g)

abbrev pub is_in : List ℕ → Fixed → Bool
is_in g p = bytes_eq p.key.group g
