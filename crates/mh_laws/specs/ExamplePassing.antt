-- Time, streams, several groups, and the end, played by the definitions alone.
use Rattle.std.specs.Prelude.{◌≡◌, ℕ, true, false, List, [], ◌∷◌, ◌++◌, Some, ℤ, pos}
use Rattle.mh_base.specs.declared.value.Value.TheVariants as value
use Rattle.mh_base.specs.declared.event.EventType.TheVariants as event
use Rattle.mh_group.specs.declared.class.Class.TheVariants as class
use Rattle.mh_group.specs.declared.action_name.ActionName.{ActionName}
use Rattle.mh_group.specs.declared.action_name.ActionName.TheVariants as action
use Rattle.mh_group.specs.declared.attribute.Attribute.TheVariants as attribute
use Rattle.mh_model.specs.declared.act.Act.{Act}
use Rattle.mh_model.specs.declared.act.Argument.{Argument}
use Rattle.mh_model.specs.declared.act.Target.TheVariants as target
use Rattle.mh_model.specs.declared.held.Held.TheVariants as of
use Rattle.mh_model.specs.declared.input.Input.TheVariants as input
use Rattle.mh_model.specs.declared.input.Move.TheVariants as move
use Rattle.mh_model.specs.declared.input.Obstacle.TheVariants as refused
use Rattle.mh_model.specs.declared.key.Key.TheVariants as key
use Rattle.mh_model.specs.declared.object.Fixed.{Fixed}
use Rattle.mh_laws.specs.ExampleComputing.{here, to_number, through, act, variable, link_on, service_of}
use Rattle.mh_laws.specs.ExampleFirst.{a, s, application, scene, rectangle, link, move_it, steps, back_of}
use Rattle.mh_model.specs.Arguments.{held_by}
use Rattle.mh_model.specs.Property.{as_number}
use Rattle.mh_model.specs.Service.{Service, object_at}
use Rattle.mh_model.specs.Reference.{group_ref}
use Rattle.mh_model.specs.State.{State, all, begun}
use Rattle.mh_model.specs.Step.{run, is_idle, obstacle}

-- what is done to a group
abbrev pub group_act : ActionName → List ℕ → List Argument → Act
group_act n g xs = record { name = n; target = target.Direct (group_ref g); arguments = xs }

-- Three timers are set when a scene starts: 1 and 2 are due at one moment, 3 before them. Each link puts its digit
-- behind the number of a variable, and moves the rectangle to where that says; that of 3 sets its timer again,
-- behind the tick.

abbrev pub timer : ℕ → ℕ → Act
timer id after = group_act action.SetTimer s (to_number (pos id) ∷ to_number (pos after) ∷ [])

abbrev pub digit : ℕ → List Act
digit d =
    act action.Multiply 5 (to_number (pos 10) ∷ [])
    ∷ act action.Add 5 (to_number (pos d) ∷ [])
    ∷ []

abbrev pub to_there : List Act
to_there = act action.SetPosition 10 (through 5 ∷ to_number (pos 16) ∷ []) ∷ []

abbrev pub on_timer : ℕ → ℕ → List Act → Fixed
on_timer n id effect = link_on n (group_ref s) event.TimerFired (value.Int (pos id)) effect

abbrev pub timed_scene : Fixed
timed_scene = record scene {
  properties = record { attribute = attribute.OnStartUp; held = of.Effect (timer 1 500 ∷ timer 2 500 ∷ timer 3 100 ∷ []) } ∷ [];
}

abbrev pub with_timers : Service
with_timers = record {
  groups =
      (a, application ∷ [])
      ∷ (
        s,
        timed_scene
            ∷ variable 5 (pos 0)
            ∷ rectangle
            ∷ on_timer 11 1 (digit 1 ++ to_there)
            ∷ on_timer 12 2 (digit 2 ++ to_there)
            ∷ on_timer 13 3 (digit 3 ++ timer 3 100 ∷ to_there)
            ∷ [],
      )
      ∷ [];
  start = a;
  programs = [];
  files = [];
  late = [];
}

-- the number that the variable of the scene holds
abbrev pub held_in : ℕ → State → ℤ
held_in n x = as_number (held_by (object_at (here n) (all x.objects)))

unfoldable pub entered : State
entered = run (steps 20) (begun with_timers 60000)

unfoldable pub fired : State
fired = run (move.Post (input.Tick 60000) ∷ steps 14) entered

-- A running stream hears each stream event, and the link that waits for 7 moves the rectangle.

abbrev pub stream : Fixed
stream = record { key = here 8; class = class.Stream; properties = [] }

abbrev pub streaming : Service
streaming = service_of (stream ∷ rectangle ∷ link_on 11 (here 8) event.StreamEvent (value.Int (pos 7)) (move_it 10 ∷ []) ∷ [])

unfoldable pub streamed : State
streamed = run (steps 14) (begun streaming 60000)

unfoldable pub told : State
told = run (move.Post (input.Stream (pos 6)) ∷ move.Post (input.Stream (pos 7)) ∷ steps 5) streamed

-- Two scenes. The red key leads from the first to the second; a second key waits until that is there, and moves its
-- rectangle.

abbrev pub p : List ℕ
p = 112 ∷ []

abbrev pub to_group : List ℕ → Act
to_group g = group_act action.TransitionTo g []

abbrev pub first_application : Fixed
first_application = record application { properties = record { attribute = attribute.OnStartUp; held = of.Effect (to_group p ∷ []) } ∷ [] }

abbrev pub first_scene : Fixed
first_scene = record scene { key = group_ref p }

abbrev pub on_key : Fixed
on_key = record (link_on 11 (group_ref p) event.UserInput (value.Int (pos 100)) (to_group s ∷ [])) { key = record { group = p; number = 11 } }

abbrev pub two_scenes : Service
two_scenes = record {
  groups = (a, first_application ∷ []) ∷ (p, first_scene ∷ on_key ∷ []) ∷ (s, scene ∷ rectangle ∷ link 10 ∷ []) ∷ [];
  start = a;
  programs = [];
  files = [];
  late = [];
}

unfoldable pub in_first : State
in_first = run (steps 8) (begun two_scenes 60000)

unfoldable pub in_second : State
in_second = run (move.Post (input.Key key.Red) ∷ move.Post (input.Key key.Red) ∷ steps 15) in_first

-- An application that quits as soon as it runs.

abbrev pub quits : Fixed
quits = record {
  key = record { group = a; number = 1 };
  class = class.Link;
  properties =
      record { attribute = attribute.EventSource; held = of.Value (value.Object (group_ref a)) }
      ∷ record { attribute = attribute.EventType; held = of.Event event.IsRunning }
      ∷ record { attribute = attribute.LinkEffect; held = of.Effect (group_act action.Quit a [] ∷ []) }
      ∷ [];
}

abbrev pub quitting : Service
quitting = record { groups = (a, record application { properties = [] } ∷ quits ∷ []) ∷ []; start = a; programs = []; files = []; late = [] }

unfoldable pub near_the_end : State
near_the_end = run (steps 8) (begun quitting 60000)

unfoldable pub ended : State
ended = run (steps 1) near_the_end

pub record Passes : Type 0 where
  -- 20 steps, and 14 behind the tick: timer 3, then 1, then 2, and one is left
  pub entered_idle : is_idle entered ≡ true
  pub entered_taken : entered.taken ≡ 20
  pub fired_idle : is_idle fired ≡ true
  pub fired_taken : fired.taken ≡ 34
  pub fired_in_order : held_in 5 fired ≡ pos 312
  pub fired_moves : back_of fired 86 ≡ 16711680
  pub fired_again : fired.timers ≡ record { group = s; id = pos 3; due = 60100 } ∷ []
  pub fired_faultless : fired.faults ≡ []
  -- 14 steps, then 5: both events are told, and one is heard
  pub streamed_idle : is_idle streamed ≡ true
  pub streamed_taken : streamed.taken ≡ 14
  pub told_idle : is_idle told ≡ true
  pub told_taken : told.taken ≡ 19
  pub told_moves : back_of told 63 ≡ 16711680
  -- 8 steps, then 15
  pub first_idle : is_idle in_first ≡ true
  pub first_taken : in_first.taken ≡ 8
  pub first_is : in_first.scene ≡ Some p
  pub second_idle : is_idle in_second ≡ true
  pub second_taken : in_second.taken ≡ 23
  pub second_is : in_second.scene ≡ Some s
  pub second_moves : back_of in_second 63 ≡ 16711680
  -- 9 steps, and then nothing is done or taken any more
  pub still_there : near_the_end.ended ≡ false
  pub has_ended : ended.ended ≡ true
  pub ended_taken : ended.taken ≡ 9
  pub ended_stays : run (steps 2) ended ≡ ended
  pub ended_refuses : obstacle (input.Key key.Red) ended ≡ Some refused.Ended
