-- Visibles that are placed: objects that are made, and then put where those with their references are.
use Rattle.std.specs.Prelude.{if◌then◌else◌, List, [], ◌∷◌, ◌++◌, Option, Some, None}
use Rattle.std.specs.List.{list_any}
use Rattle.mh_base.specs.declared.obj_ref.ObjRef.{ObjRef}
use Rattle.mh_group.specs.declared.written.Position.{Position}
use Rattle.mh_group.specs.Table.{is_visible}
use Rattle.mh_model.specs.declared.object.Object.{Object}
use Rattle.mh_model.specs.First.{change_first}
use Rattle.mh_model.specs.Rules.{is_at, on_body, placed_at}
use Rattle.mh_model.specs.Service.{object_at}
use Rattle.mh_model.specs.State.{Objects, all}

-- the object, placed here if it is a visible
abbrev pub with_place : Position → Object → Object
with_place q o = on_body (placed_at q) o

-- the object that was found, placed here, if one was found that is a visible
abbrev pub found_placed : Position → Option Object → List Object
found_placed q None = []
found_placed q (Some o) = if is_visible o.fixed.class then with_place q o ∷ [] else []

-- those that are placed, each made of the object as it is
abbrev pub ready_placed : List (ObjRef × Position) → Objects → List Object
ready_placed [] os = []
ready_placed (p ∷ ps) os = found_placed p.1 (object_at p.0 (all os)) ++ ready_placed ps os

-- the objects with this one where the one with its reference is
abbrev pub renewed_in : Object → List Object → List Object
renewed_in o os = change_first (is_at o.fixed.key) (λ _. o) os

abbrev pub renewed : Object → Objects → Objects
renewed o os =
    if list_any (is_at o.fixed.key) os.application then record os { application = renewed_in o os.application }
    else record os { scene = renewed_in o os.scene }

-- they are put there, one after another
abbrev pub all_renewed : List Object → Objects → Objects
all_renewed [] os = os
all_renewed (o ∷ rest) os = all_renewed rest (renewed o os)
