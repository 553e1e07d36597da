-- What the actions of widgets come to, and who interacts.
use Rattle.std.specs.Prelude.{ℕ, Bool, false, if◌then◌else◌, List, Option, Some, None}
use Rattle.std.specs.Str.{bytes_eq}
use Rattle.mh_base.specs.declared.obj_ref.ObjRef.{ObjRef}
use Rattle.mh_base.specs.declared.value.Value.{Value}
use Rattle.mh_group.specs.declared.action_name.ActionName.{ActionName}
use Rattle.mh_group.specs.declared.action_name.ActionName.TheVariants as action
use Rattle.mh_group.specs.Table.{is_list_group}
use Rattle.mh_model.specs.declared.interaction.Interaction.{Interaction}
use Rattle.mh_model.specs.declared.object.Body.{Body}
use Rattle.mh_model.specs.declared.object.Fixed.{Fixed}
use Rattle.mh_model.specs.EntryFields.{button_worked}
use Rattle.mh_model.specs.Lists.{list_worked, selection_worked}
use Rattle.mh_model.specs.Reference.{same_ref}
use Rattle.mh_model.specs.Tokens.{token_worked}
use Rattle.mh_model.specs.Widget.{Worked, no_work}

-- what changes the items of a list does nothing to any other object
abbrev pub if_list : Fixed → Body → Worked → Worked
if_list p b w = if is_list_group p.class then w else no_work b

-- what an action makes of a widget, and what follows
abbrev pub worked : ActionName → List Value → ObjRef → Fixed → Body → Worked
worked action.Move vs r p b = token_worked action.Move vs r p b
worked action.MoveTo vs r p b = token_worked action.MoveTo vs r p b
worked action.AddItem vs r p b = if_list p b (list_worked action.AddItem vs r p b)
worked action.DelItem vs r p b = if_list p b (list_worked action.DelItem vs r p b)
worked action.ScrollItems vs r p b = if_list p b (list_worked action.ScrollItems vs r p b)
worked action.SetFirstItem vs r p b = if_list p b (list_worked action.SetFirstItem vs r p b)
worked action.SelectItem vs r p b = selection_worked action.SelectItem vs r p b
worked action.DeselectItem vs r p b = selection_worked action.DeselectItem vs r p b
worked action.ToggleItem vs r p b = selection_worked action.ToggleItem vs r p b
worked n vs r p b = button_worked n vs r p b

-- Interaction

abbrev pub is_interacting : ObjRef → Option Interaction → Bool
is_interacting r None = false
is_interacting r (Some i) = same_ref r i.object

-- where it is this object that interacts, none does any more
abbrev pub ended_of : ObjRef → Option Interaction → Option Interaction
ended_of r i = if is_interacting r i then None else i

-- the interaction of an object of this group stays, any other ends
abbrev pub interaction_of : List ℕ → Option Interaction → Option Interaction
interaction_of g None = None
interaction_of g (Some i) = if bytes_eq i.object.group g then Some i else None
