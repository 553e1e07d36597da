-- What an object can do: its actions, and that each event which they send is written itself.
use Rattle.std.specs.Prelude.{Bool, true, false, if◌then◌else◌, List, ◌∷◌, ◌++◌}
use Rattle.std.specs.List.{list_all}
use Rattle.mh_group.specs.declared.action_name.ActionName.{ActionName}
use Rattle.mh_group.specs.declared.action_name.ActionName.TheVariants as action
use Rattle.mh_group.specs.declared.attribute.Attribute.TheVariants as attribute
use Rattle.mh_group.specs.declared.shape.Need.{Need}
use Rattle.mh_group.specs.declared.shape.Need.TheVariants as need
use Rattle.mh_group.specs.Table.{needs_of}
use Rattle.mh_model.specs.declared.act.Act.{Act}
use Rattle.mh_model.specs.declared.act.Argument.{Argument}
use Rattle.mh_model.specs.declared.act.Argument.TheVariants as argument
use Rattle.mh_model.specs.declared.object.Fixed.{Fixed}
use Rattle.mh_model.specs.Property.{held, as_effect}
use Rattle.mh_model.specs.Tokens.{slot_actions}

-- the actions of an object, through its effects: start-up, close-down, what a link does, and slots
abbrev pub actions : Fixed → List Act
actions p =
    as_effect (held attribute.OnStartUp p.properties) ++ as_effect (held attribute.OnCloseDown p.properties)
    ++ as_effect (held attribute.LinkEffect p.properties) ++ slot_actions p

-- Events that are sent

-- the action sends an event that its parameters name
abbrev pub is_sending : ActionName → Bool
is_sending action.SendEvent = true
is_sending _ = false

-- the first of these is written itself, not through a variable
abbrev pub is_direct_first : List Argument → Bool
is_direct_first (argument.Direct v ∷ xs) = true
is_direct_first _ = false

-- the argument at the place where an event is needed is written itself
abbrev pub has_direct_event : List Need → List Argument → Bool
has_direct_event (need.Event ∷ ns) xs = is_direct_first xs
has_direct_event (n ∷ ns) (x ∷ xs) = has_direct_event ns xs
has_direct_event _ _ = false

-- an action that sends an event has it written itself
abbrev pub sends_direct : Act → Bool
sends_direct a = if is_sending a.name then has_direct_event (needs_of a.name) a.arguments else true

-- each event that the object's actions send is written itself
abbrev pub sends_written : Fixed → Bool
sends_written p = list_all sends_direct (actions p)
