-- Scenes whose files come late, played and counted by the definitions alone.
use Rattle.std.specs.Prelude.{◌≡◌, ◌==◌, ◌&&◌, not, ℕ, true, if◌then◌else◌, List, [], ◌∷◌, Some, None, pos}
use Rattle.std.specs.Str.{bytes_eq}
use Rattle.mh_base.specs.declared.event.EventType.TheVariants as event
use Rattle.mh_base.specs.declared.value.Value.TheVariants as value
use Rattle.mh_group.specs.declared.class.Class.TheVariants as class
use Rattle.mh_group.specs.declared.action_name.ActionName.TheVariants as action
use Rattle.mh_group.specs.declared.attribute.Attribute.TheVariants as attribute
use Rattle.mh_group.specs.declared.action.EventData.TheVariants as event_data
use Rattle.mh_group.specs.declared.action.Parameter.TheVariants as parameter
use Rattle.mh_group.specs.declared.reference.Ref.TheVariants as ref
use Rattle.mh_group.specs.declared.reference.Generic.TheVariants.{Direct}
use Rattle.mh_group.specs.declared.written.Ingredient.{Ingredient}
use Rattle.mh_group.specs.declared.written.Setting.TheVariants as setting
use Rattle.mh_group.specs.declared.written.Written.{Written}
use Rattle.mh_model.specs.declared.input.Input.{Input}
use Rattle.mh_model.specs.declared.input.Input.TheVariants as input
use Rattle.mh_model.specs.declared.input.Move.TheVariants as move
use Rattle.mh_model.specs.declared.input.Obstacle.TheVariants as refused
use Rattle.mh_model.specs.declared.key.Key.TheVariants as key
use Rattle.mh_model.specs.declared.object.Fixed.{Fixed}
use Rattle.mh_model.specs.declared.transition.Transition.TheVariants as transition
use Rattle.mh_model.specs.Reference.{group_ref}
use Rattle.mh_model.specs.Service.{Service}
use Rattle.mh_model.specs.State.{State, begun}
use Rattle.mh_model.specs.Step.{run, posted, obstacle, is_idle}
use Rattle.mh_laws.specs.Costs.{Effect}
use Rattle.mh_laws.specs.ExampleComputing.{link_on}
use Rattle.mh_laws.specs.ExampleCounting.{Counts, both, by_group, none_held, six, with_sets, within}
use Rattle.mh_laws.specs.ExampleFirst.{a, s, service, scene, rectangle, link, steps, shows_red}
use Rattle.mh_laws.specs.ExamplePassing.{p, first_application, first_scene, on_key, to_group}
use Rattle.mh_laws.specs.Flow.{Flow}

-- The scene of the first example, as its file writes it

abbrev pub rectangle_written : Ingredient
rectangle_written = record {
  class = class.Rectangle;
  number = 10;
  fields =
      record { attribute = attribute.OrigBoxSize; setting = setting.Pair (pos 24) (pos 32) }
      ∷ record { attribute = attribute.OrigPosition; setting = setting.Pair (pos 12) (pos 16) }
      ∷ record { attribute = attribute.OrigLineWidth; setting = setting.Int (pos 0) }
      ∷ record { attribute = attribute.OrigRefFillColour; setting = setting.Colour (record { red = 255; green = 0; blue = 0; transparency = 0 }) }
      ∷ [];
}

abbrev pub link_written : ℕ → Ingredient
link_written x = record {
  class = class.Link;
  number = 11;
  fields =
      record { attribute = attribute.EventSource; setting = setting.Ref (ref.Here 0) }
      ∷ record { attribute = attribute.EventType; setting = setting.Event event.UserInput }
      ∷ record { attribute = attribute.EventData; setting = setting.Data (event_data.Int (pos 100)) }
      ∷ record { attribute = attribute.LinkEffect; setting = setting.Effect (record { name = action.SetPosition; target = Direct (ref.Here 10); parameters = parameter.Int (Direct (pos x)) ∷ parameter.Int (Direct (pos 16)) ∷ [] } ∷ []) }
      ∷ [];
}

abbrev pub empty_scene : Written
empty_scene = record { class = class.Scene; identifier = 126 ∷ 47 ∷ 115 ∷ []; fields = []; items = None }

-- where the link moves the rectangle to this place
abbrev pub scene_written : ℕ → Written
scene_written x = record empty_scene {
  fields =
      record { attribute = attribute.InputEventReg; setting = setting.Int (pos 3) }
      ∷ record { attribute = attribute.SceneCs; setting = setting.Pair (pos 720) (pos 576) }
      ∷ [];
  items = Some (rectangle_written ∷ link_written x ∷ []);
}

-- The first example, whose scene is late: three steps, then nothing until its file comes, which is the eleventh and last
-- before the scene is there.

abbrev pub late_service : Service
late_service = record service { files = (s, scene_written 24) ∷ []; late = s ∷ [] }

abbrev pub file : Input
file = input.Scene s (scene_written 24)

unfoldable pub waits : State
waits = run (steps 3) (begun late_service 60000)

unfoldable pub posted_once : State
posted_once = posted file waits

unfoldable pub came : State
came = run (steps 10) posted_once

-- Two scenes to which keys lead, of which the first is late. The red key waits for it; the green key leads to the other,
-- and then nothing waits for it any more.

abbrev pub q : List ℕ
q = 113 ∷ []

abbrev pub on_green : Fixed
on_green = record (link_on 12 (group_ref p) event.UserInput (value.Int (pos 101)) (to_group q ∷ [])) { key = record { group = p; number = 12 } }

abbrev pub other_scene : Fixed
other_scene = record scene { key = group_ref q; properties = [] }

abbrev pub two_ways : Service
two_ways = record {
  groups =
      (a, first_application ∷ [])
      ∷ (p, first_scene ∷ on_key ∷ on_green ∷ [])
      ∷ (q, other_scene ∷ [])
      ∷ (s, scene ∷ rectangle ∷ link 10 ∷ [])
      ∷ [];
  start = a;
  programs = [];
  files = (s, scene_written 24) ∷ [];
  late = s ∷ [];
}

unfoldable pub in_first : State
in_first = run (steps 11) (begun two_ways 60000)

unfoldable pub red_waits : State
red_waits = run (move.Post (input.Key key.Red) ∷ steps 2) in_first

unfoldable pub in_other : State
in_other = run (move.Post (input.Key key.Red) ∷ move.Post (input.Key key.Green) ∷ steps 11) in_first

unfoldable pub stays_there : State
stays_there = run (move.Post file ∷ steps 1) in_other

-- the application with each of its scenes, or none
abbrev pub each_way : Flow
each_way = with_sets none_held (within None ∷ within (Some p) ∷ within (Some q) ∷ within (Some s) ∷ [])

-- what the application does is above what the links of its first scene do, and these are above the rest
abbrev pub by_place : Effect → ℕ
by_place x = if bytes_eq x.object.group a then 2 else (if bytes_eq x.object.group p && not (x.object.number == 0) then 1 else 0)

pub record ComesLate : Type 0 where
  -- three steps, and nothing is left to do
  pub waits_idle : is_idle waits ≡ true
  pub waits_taken : waits.taken ≡ 3
  pub waits_for : waits.transition ≡ transition.Awaits s
  pub waits_black : shows_red [] waits ≡ true
  -- the files of others are refused, and one that waits already
  pub empty_differs : obstacle (input.Scene s empty_scene) waits ≡ Some refused.Differs
  pub other_differs : obstacle (input.Scene s (scene_written 25)) waits ≡ Some refused.Differs
  pub never_late : obstacle (input.Scene a (scene_written 24)) waits ≡ Some refused.NotLate
  pub once : obstacle file waits ≡ None
  pub not_twice : obstacle file posted_once ≡ Some refused.NotLate
  -- then ten
  pub came_idle : is_idle came ≡ true
  pub came_taken : came.taken ≡ 13
  pub came_is : came.scene ≡ Some s
  pub came_late : came.late ≡ []
  pub came_rests : came.transition ≡ transition.Rests
  pub came_shows : shows_red (61 ∷ 62 ∷ 121 ∷ 122 ∷ []) came ≡ true
  pub came_again : obstacle file came ≡ Some refused.NotLate
  -- eleven steps, then eleven, of which two wait, and then one
  pub first_idle : is_idle in_first ≡ true
  pub first_taken : in_first.taken ≡ 11
  pub red_waits_for : red_waits.transition ≡ transition.Awaits s
  pub red_stays : red_waits.scene ≡ Some p
  pub other_idle : is_idle in_other ≡ true
  pub other_taken : in_other.taken ≡ 22
  pub other_is : in_other.scene ≡ Some q
  pub other_rests : in_other.transition ≡ transition.Rests
  pub stays_idle : is_idle stays_there ≡ true
  pub stays_taken : stays_there.taken ≡ 23
  pub stays_in : stays_there.scene ≡ Some q
  pub faultless : stays_there.faults ≡ []
  -- a scene file costs what it takes to leave for the scene, where the start is, or the scene itself
  pub counted : Counts late_service both by_group (six 12 2 1 1 1 14)
  pub counted_both : Counts two_ways each_way by_place (six 12 15 1 1 1 14)
