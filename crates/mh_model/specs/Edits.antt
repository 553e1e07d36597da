-- What is changed of a body, as what is carried out.
use Rattle.std.specs.Prelude.{[], ◌∷◌, ◌++◌, Option, Some, None}
use Rattle.mh_model.specs.declared.edit.Edit.{Edit}
use Rattle.mh_model.specs.declared.edit.Edit.TheVariants as edit
use Rattle.mh_model.specs.declared.object.Body.{Body}
use Rattle.mh_model.specs.declared.object.Fixed.{Fixed}
use Rattle.mh_model.specs.Bodies.{prepared, started, halted, dropped, given, put, replaced, cleared}

abbrev pub edited : Edit → Fixed → Body → Body
edited (edit.Give v) p b = given v b
edited (edit.Put a h) p b = put a h b
edited (edit.Load v text) p b = replaced v text b
edited (edit.Draw d) p b = record b { drawings = b.drawings ++ d ∷ [] }
edited edit.Clear p b = cleared b
edited (edit.Prepare text) p b = prepared text b
edited (edit.Start text) p b = started text p b
edited edit.Halt p b = halted b
edited edit.Drop p b = dropped b
edited (edit.Turn n) p b = record b { token = n }
edited (edit.List l) p b = record b { list = l }
edited (edit.Point n) p b = record b { point = n }
edited (edit.Type os n) p b = record b { text = Some os; point = n }
edited (edit.Overwrite on) p b = record b { overwrites = on }
edited (edit.Highlight on) p b = record b { highlighted = on }
edited (edit.Select on) p b = record b { selected = on }

-- where there is nothing to change, the body stays as it is
abbrev pub edited_if : Option Edit → Fixed → Body → Body
edited_if None p b = b
edited_if (Some e) p b = edited e p b
