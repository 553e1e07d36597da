-- What a widget's action or key is answered with, against what the definitions say.
use Rattle.std.specs.Prelude.{◌≡◌, Bool, if◌then◌else◌, List, [], ◌∷◌, Option, Some, None}
use Rattle.mh_base.specs.declared.obj_ref.ObjRef.{ObjRef}
use Rattle.mh_group.specs.declared.written.Position.{Position}
use Rattle.mh_model.specs.declared.act.Act.{Act}
use Rattle.mh_model.specs.declared.edit.Edit.{Edit}
use Rattle.mh_model.specs.declared.object.Object.{Object}
use Rattle.mh_model.specs.Edits.{edited_if}
use Rattle.mh_model.specs.EntryFields.{Pressed as PressedSaid}
use Rattle.mh_model.specs.Widget.{Worked}
use Rattle.mh_widgets.specs.declared.done.Done.{Done}
use Rattle.mh_widgets.specs.declared.done.Pressed.{Pressed}

-- the change, what is placed, and the items are those that are said, of this object
abbrev pub Does : Object → Worked → Done → Type 0
Does o w d =
    (edited_if d.edit o.fixed o.body ≡ w.body) × (d.placed.items ≡ w.placed) × (d.items.items ≡ w.items)

-- nothing is placed where the widget is not changed
abbrev pub placed_with : Option Edit → List (ObjRef × Position) → List (ObjRef × Position)
placed_with None ps = []
placed_with (Some e) ps = ps

-- nothing is placed by a widget that can be seen
abbrev pub placed_by : List (ObjRef × Position) → Bool → List (ObjRef × Position)
placed_by [] seen = []
placed_by (p ∷ ps) seen = if seen then [] else p ∷ ps

abbrev pub Presses : Object → PressedSaid → Pressed → Type 0
Presses o w d =
    (edited_if d.edit o.fixed o.body ≡ w.body) × (d.items.items ≡ w.items) × (d.ends ≡ w.ends)

-- the actions of an effect that was found, or none
abbrev pub acts_of : Option (List Act) → List Act
acts_of None = []
acts_of (Some acts) = acts
