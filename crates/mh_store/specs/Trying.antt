-- What comes of a change that is given to a group which may have the object, or not.
use Rattle.std.specs.Prelude.{List, [], Option, Some, None, unwrap_or}
use Rattle.mh_base.specs.declared.obj_ref.ObjRef.{ObjRef}
use Rattle.mh_base.specs.declared.value.Value.{Value}
use Rattle.mh_model.specs.declared.edit.Edit.{Edit}
use Rattle.mh_model.specs.declared.object.Object.{Object}
use Rattle.mh_model.specs.Bodies.{given}
use Rattle.mh_model.specs.Edits.{edited}
use Rattle.mh_model.specs.Rules.{changed_in}
use Rattle.mh_model.specs.State.{Objects}

-- what is left of what was given: all of it, where there is no such object
abbrev pub left_over : {X : Type 0} → X → Option Object → Option X
left_over x None = Some x
left_over x (Some o) = None

-- the objects of a scene, if there is one
abbrev pub of_scene : Option (List Object) → List Object
of_scene os = unwrap_or os []

-- the objects of an application, and those of a scene, if there is one
abbrev pub with_scene : List Object → Option (List Object) → Objects
with_scene os ps = record { application = os; scene = of_scene ps }

-- the objects with the change carried out on the one at the reference
abbrev pub edited_in : Edit → ObjRef → List Object → List Object
edited_in e r os = changed_in (edited e) r os

-- the objects with the value given to the one at the reference
abbrev pub given_in : Value → ObjRef → List Object → List Object
given_in v r os = changed_in (λ _ b. given v b) r os
