-- A second example, played by the definitions alone: a scene that computes. The red key sets a variable to 1 and
-- tests it; the link that hears the test's truth multiplies by 3 before anything else is done; 1 is added, the
-- next test fails, and the link that hears that adds 10. Then a rectangle moves to where the variable says.
use Rattle.std.specs.Prelude.{◌≡◌, ℕ, Bool, true, false, List, [], ◌∷◌, Some, ℤ, pos}
use Rattle.mh_base.specs.declared.obj_ref.ObjRef.{ObjRef}
use Rattle.mh_base.specs.declared.value.Kind.TheVariants as kind
use Rattle.mh_base.specs.declared.value.Value.{Value}
use Rattle.mh_base.specs.declared.value.Value.TheVariants as value
use Rattle.mh_base.specs.declared.event.EventType.{EventType}
use Rattle.mh_base.specs.declared.event.EventType.TheVariants as event
use Rattle.mh_group.specs.declared.class.Class.TheVariants as class
use Rattle.mh_group.specs.declared.action_name.ActionName.{ActionName}
use Rattle.mh_group.specs.declared.action_name.ActionName.TheVariants as action
use Rattle.mh_group.specs.declared.attribute.Attribute.TheVariants as attribute
use Rattle.mh_model.specs.declared.act.Act.{Act}
use Rattle.mh_model.specs.declared.act.Argument.{Argument}
use Rattle.mh_model.specs.declared.act.Argument.TheVariants as argument
use Rattle.mh_model.specs.declared.act.Target.TheVariants as target
use Rattle.mh_model.specs.declared.fault.FaultKind.TheVariants as fault
use Rattle.mh_model.specs.declared.held.Held.TheVariants as of
use Rattle.mh_model.specs.declared.object.Fixed.{Fixed}
use Rattle.mh_model.specs.declared.input.Input.TheVariants as input
use Rattle.mh_model.specs.declared.input.Move.TheVariants as move
use Rattle.mh_model.specs.declared.key.Key.TheVariants as key
use Rattle.mh_model.specs.Bodies.{changed_by}
use Rattle.mh_laws.specs.ExampleFirst.{a, s, application, scene, rectangle, steps, back_of}
use Rattle.mh_model.specs.Property.{value_held, as_number}
use Rattle.mh_model.specs.Service.{Service, fresh}
use Rattle.mh_model.specs.Reference.{group_ref}
use Rattle.mh_model.specs.State.{State, begun}
use Rattle.mh_model.specs.Step.{run, is_idle}
use Rattle.mh_model.specs.Variables.{converted}

abbrev pub here : ℕ → ObjRef
here n = record { group = s; number = n }

abbrev pub to_number : ℤ → Argument
to_number n = argument.Direct (value.Int n)

abbrev pub through : ℕ → Argument
through n = argument.Through (here n) (Some kind.Int)

abbrev pub act : ActionName → ℕ → List Argument → Act
act n o xs = record { name = n; target = target.Direct (here o); arguments = xs }

abbrev pub variable : ℕ → ℤ → Fixed
variable n x = record {
  key = here n;
  class = class.IntegerVar;
  properties = record { attribute = attribute.OrigValue; held = of.Value (value.Int x) } ∷ [];
}

-- a variable that refers to an object of the scene
abbrev pub reference : ℕ → ℕ → Fixed
reference n o = record {
  key = here n;
  class = class.ObjectRefVar;
  properties = record { attribute = attribute.OrigValue; held = of.Value (value.Object (here o)) } ∷ [];
}

abbrev pub link_on : ℕ → ObjRef → EventType → Value → List Act → Fixed
link_on n source kind v effect = record {
  key = here n;
  class = class.Link;
  properties =
      record { attribute = attribute.EventSource; held = of.Value (value.Object source) }
      ∷ record { attribute = attribute.EventType; held = of.Event kind }
      ∷ record { attribute = attribute.EventData; held = of.Value v }
      ∷ record { attribute = attribute.LinkEffect; held = of.Effect effect }
      ∷ [];
}

abbrev pub on_red : List Act → Fixed
on_red effect = link_on 11 (group_ref s) event.UserInput (value.Int (pos 100)) effect

abbrev pub on_test : ℕ → Bool → Act → Fixed
on_test n truth a = link_on n (here 1) event.TestEvent (value.Bool truth) (a ∷ [])

abbrev pub service_of : List Fixed → Service
service_of items = record { groups = (a, application ∷ []) ∷ (s, scene ∷ items) ∷ []; start = a; programs = []; files = []; late = [] }

abbrev pub computing : Service
computing =
    service_of (
    variable 1 (pos 0)
    ∷ rectangle
    ∷ on_red (
    act action.SetVariable 1 (to_number (pos 1) ∷ [])
    ∷ act action.TestVariable 1 (to_number (pos 1) ∷ to_number (pos 1) ∷ [])
    ∷ act action.Add 1 (to_number (pos 1) ∷ [])
    ∷ act action.TestVariable 1 (to_number (pos 1) ∷ to_number (pos 1) ∷ [])
    ∷ act action.SetPosition 10 (through 1 ∷ to_number (pos 16) ∷ [])
    ∷ [])
    ∷ on_test 12 true (act action.Multiply 1 (to_number (pos 3) ∷ []))
    ∷ on_test 13 false (act action.Add 1 (to_number (pos 10) ∷ []))
    ∷ [])

unfoldable pub computed : State
computed = run (move.Post (input.Key key.Red) ∷ steps 10) (run (steps 17) (begun computing 60000))

-- A rectangle that is named through a variable moves; where the variable refers to nothing that is there, the
-- fault names what it refers to; a variable of numbers refers to nothing.

abbrev pub moving_through : Fixed → Service
moving_through v =
    service_of (
    v
    ∷ rectangle
    ∷ on_red (
    record { name = action.SetPosition; target = target.Through (here 1); arguments = to_number (pos 24) ∷ to_number (pos 16) ∷ [] }
    ∷ [])
    ∷ [])

abbrev pub pressed : Service → State
pressed v = run (move.Post (input.Key key.Red) ∷ steps 2) (run (steps 11) (begun v 60000))

unfoldable pub moved_through : State
moved_through = pressed (moving_through (reference 1 10))

unfoldable pub missed_through : State
missed_through = pressed (moving_through (reference 1 99))

unfoldable pub no_reference : State
no_reference = pressed (moving_through (variable 1 (pos 0)))

-- Sums of one variable

-- what the action makes of a variable that holds the one number, given the other
abbrev pub summed : ActionName → ℤ → ℤ → ℤ
summed n x y =
    as_number (value_held (variable 1 x) (changed_by n (value.Int y ∷ []) (variable 1 x) (record (fresh (variable 1 x)).body { value = Some (value.Int x) })))

pub record Computes : Type 0 where
  pub computed_taken : computed.taken ≡ 27
  pub computed_idle : is_idle computed ≡ true
  pub computed_faultless : computed.faults ≡ []
  -- the variable holds 14: the rectangle covers columns 2 and 3
  pub computed_left : back_of computed 61 ≡ 0
  pub computed_right : back_of computed 63 ≡ 16711680
  pub through_moves : back_of moved_through 63 ≡ 16711680
  pub through_faultless : moved_through.faults ≡ []
  pub through_missed : missed_through.faults ≡ record { what = fault.Absent; action = action.SetPosition; at = here 99 } ∷ []
  pub through_number : no_reference.faults ≡ record { what = fault.WrongKind; action = action.SetPosition; at = here 1 } ∷ []
  pub over : summed action.Add (pos 2147483647) (pos 1) ≡ pos 2147483647
  pub by_zero : summed action.Divide (pos 7) (pos 0) ≡ pos 7
  pub under : summed action.Subtract (pos 2147483647) (pos 2147483623) ≡ pos 24
  pub plus_is_no_digit : converted class.IntegerVar (value.Octets (43 ∷ 53 ∷ [])) ≡ value.Int (pos 0)
  pub minus_zero : converted class.IntegerVar (value.Octets (45 ∷ 48 ∷ [])) ≡ value.Int (pos 0)
  pub digits : converted class.IntegerVar (value.Octets (48 ∷ 49 ∷ 50 ∷ [])) ≡ value.Int (pos 12)
