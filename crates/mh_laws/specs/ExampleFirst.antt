-- The first example, played by the definitions alone: one application that transits to a scene with a
-- red rectangle, which moves by one cell when the red key comes.
use Rattle.std.specs.Prelude.{◌≡◌, ◌==◌, ◌&&◌, if◌then◌else◌, ℕ, Bool, true, List, [], ◌∷◌, pos, replicate}
use Rattle.std.specs.List.{list_all, list_any, range_with_len}
use Rattle.mh_base.specs.declared.value.Value.TheVariants as value
use Rattle.mh_base.specs.declared.event.EventType.TheVariants as event
use Rattle.mh_group.specs.declared.class.Class.TheVariants as class
use Rattle.mh_group.specs.declared.action_name.ActionName.TheVariants as action
use Rattle.mh_group.specs.declared.attribute.Attribute.TheVariants as attribute
use Rattle.mh_model.specs.declared.picture.cell.Cell.{Cell}
use Rattle.mh_model.specs.declared.act.Act.{Act}
use Rattle.mh_model.specs.declared.fault.Fault.{Fault}
use Rattle.mh_model.specs.declared.fault.FaultKind.TheVariants as fault
use Rattle.mh_model.specs.declared.held.Held.TheVariants as of
use Rattle.mh_model.specs.declared.act.Argument.TheVariants as argument
use Rattle.mh_model.specs.declared.act.Target.TheVariants as target
use Rattle.mh_model.specs.declared.object.Fixed.{Fixed}
use Rattle.mh_model.specs.declared.input.Input.TheVariants as input
use Rattle.mh_model.specs.declared.input.Move.{Move}
use Rattle.mh_model.specs.declared.input.Move.TheVariants as move
use Rattle.mh_model.specs.declared.key.Key.TheVariants as key
use Rattle.mh_model.specs.Service.{Service}
use Rattle.mh_model.specs.Reference.{group_ref}
use Rattle.mh_model.specs.State.{State, all, begun}
use Rattle.mh_model.specs.Step.{run, is_idle}
use Rattle.mh_model.specs.Picture.{cell_at}

abbrev pub a : List ℕ
a = 97 ∷ []

abbrev pub s : List ℕ
s = 115 ∷ []

abbrev pub application : Fixed
application = record {
  key = group_ref a;
  class = class.Application;
  properties = record { attribute = attribute.OnStartUp; held = of.Effect (record { name = action.TransitionTo; target = target.Direct (group_ref s); arguments = [] } ∷ []) } ∷ [];
}

abbrev pub scene : Fixed
scene = record {
  key = group_ref s;
  class = class.Scene;
  properties = record { attribute = attribute.InputEventReg; held = of.Value (value.Int (pos 3)) } ∷ [];
}

abbrev pub rectangle : Fixed
rectangle = record {
  key = record { group = s; number = 10 };
  class = class.Rectangle;
  properties =
      record { attribute = attribute.OrigBoxSize; held = of.Pair (pos 24) (pos 32) }
      ∷ record { attribute = attribute.OrigPosition; held = of.Pair (pos 12) (pos 16) }
      ∷ record { attribute = attribute.OrigLineWidth; held = of.Value (value.Int (pos 0)) }
      ∷ record { attribute = attribute.OrigRefFillColour; held = of.Colour (record { red = 255; green = 0; blue = 0; transparency = 0 }) }
      ∷ [];
}

abbrev pub move_it : ℕ → Act
move_it n = record { name = action.SetPosition; target = target.Direct (record { group = s; number = n }); arguments = argument.Direct (value.Int (pos 24)) ∷ argument.Direct (value.Int (pos 16)) ∷ [] }

abbrev pub link : ℕ → Fixed
link n = record {
  key = record { group = s; number = 11 };
  class = class.Link;
  properties =
      record { attribute = attribute.EventSource; held = of.Value (value.Object (group_ref s)) }
      ∷ record { attribute = attribute.EventType; held = of.Event event.UserInput }
      ∷ record { attribute = attribute.EventData; held = of.Value (value.Int (pos 100)) }
      ∷ record { attribute = attribute.LinkEffect; held = of.Effect (move_it n ∷ []) }
      ∷ [];
}

-- the link moves the object with this number
abbrev pub service_moving : ℕ → Service
service_moving n = record { groups = (a, application ∷ []) ∷ (s, scene ∷ rectangle ∷ link n ∷ []) ∷ []; start = a; programs = []; files = []; late = [] }

abbrev pub service : Service
service = service_moving 10

-- so many steps
abbrev pub steps : ℕ → List Move
steps n = replicate n move.Step

-- the state when it has settled, and when it has settled again after the red key
unfoldable pub settled : State
settled = run (steps 11) (begun service 60000)

unfoldable pub moved_on : State
moved_on = run (move.Post (input.Key key.Red) ∷ steps 2) settled

-- the colour behind a cell
abbrev pub back_of : State → ℕ → ℕ
back_of x c = (cell_at (all x.objects) x.stack c).back

-- a cell without a character, and with this colour behind it
abbrev pub is_plain : ℕ → Cell → Bool
is_plain colour c = c.scalar == 32 && c.fore == 0 && c.back == colour

-- of the 60 by 36 cells, counted row by row, exactly these are red, and all others are black, and none has a character
abbrev pub shows_red : List ℕ → State → Bool
shows_red cells x =
    list_all (λ c. is_plain (if list_any (λ y. y == c) cells then 16711680 else 0) (cell_at (all x.objects) x.stack c)) (range_with_len 0 2160)

-- it settles after 11 steps with the cells (1, 1) to (2, 2) red, and 2 steps after the red key with those one
-- to the right
pub record PlaysFirst : Type 0 where
  pub eleven : settled.taken ≡ 11
  pub idle : is_idle settled ≡ true
  pub frame : shows_red (61 ∷ 62 ∷ 121 ∷ 122 ∷ []) settled ≡ true
  pub two : moved_on.taken ≡ 13
  pub idle_again : is_idle moved_on ≡ true
  pub next_frame : shows_red (62 ∷ 63 ∷ 122 ∷ 123 ∷ []) moved_on ≡ true
  pub faultless : moved_on.faults ≡ []

-- An application that does nothing: 2 steps.

abbrev pub empty_service : Service
empty_service = record { groups = (a, record application { properties = [] } ∷ []) ∷ []; start = a; programs = []; files = []; late = [] }

unfoldable pub rested : State
rested = run (steps 2) (begun empty_service 60000)

-- The same example, where the link names object 99, which is not there: a fault, and nothing moves.

unfoldable pub missed : State
missed = run (move.Post (input.Key key.Red) ∷ steps 2) (run (steps 11) (begun (service_moving 99) 60000))

abbrev pub nothing_there : Fault
nothing_there = record { what = fault.Absent; action = action.SetPosition; at = record { group = s; number = 99 } }

pub record PlaysOthers : Type 0 where
  pub rested_taken : rested.taken ≡ 2
  pub rested_idle : is_idle rested ≡ true
  pub missed_faults : missed.faults ≡ nothing_there ∷ []
  pub missed_taken : missed.taken ≡ 13
  pub missed_stays : back_of missed 61 ≡ 16711680
