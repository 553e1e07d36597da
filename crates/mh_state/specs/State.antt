-- What is told of a state, a line for each thing: steps, moment, configuration, transition, interaction and lock, the scenes
-- that are late, what variables hold, the timers that are set, what waits, and the display stack.
use Rattle.std.specs.Prelude.{ℕ, List, [], ◌∷◌, ◌++◌, codes, reverse, Option, Some, None}
use Rattle.std.specs.Fmt.{decimal, signed_decimal}
use Rattle.std.specs.List.{flat_map}
use Rattle.mh_base.specs.declared.obj_ref.ObjRef.{ObjRef}
use Rattle.mh_base.specs.declared.value.Value.{Value}
use Rattle.mh_model.specs.declared.input.Waiting.{Waiting}
use Rattle.mh_model.specs.declared.interaction.Interaction.{Interaction}
use Rattle.mh_model.specs.declared.object.Object.{Object}
use Rattle.mh_model.specs.declared.time.Timer.{Timer}
use Rattle.mh_model.specs.declared.transition.Transition.{Transition}
use Rattle.mh_model.specs.declared.transition.Transition.TheVariants as transition
use Rattle.mh_model.specs.Limits.{most_moment}
use Rattle.mh_model.specs.Property.{value_held}
use Rattle.mh_model.specs.State.{State, all}
use Rattle.mh_model.specs.Time.{due}
use Rattle.mh_trace.specs.Changes.{short_value}
use Rattle.mh_trace.specs.Words.{ref_text, waiting_text}

-- lines

unfoldable pub number_line : List ℕ → ℕ → List ℕ
number_line word n = word ++ decimal n ++ 10 ∷ []

unfoldable pub name_line : List ℕ → List ℕ → List ℕ
name_line word name = word ++ name ++ 10 ∷ []

unfoldable pub object_line : List ℕ → ObjRef → List ℕ
object_line word r = word ++ ref_text r ++ 10 ∷ []

-- configuration

unfoldable pub steps_line : ℕ → List ℕ
steps_line n = number_line (codes "steps ") n

unfoldable pub moment_line : ℕ → List ℕ
moment_line n = number_line (codes "milliseconds ") n

unfoldable pub application_line : List ℕ → List ℕ
application_line g = name_line (codes "application ") g

unfoldable pub no_scene_line : List ℕ
no_scene_line = codes "no scene" ++ 10 ∷ []

abbrev pub scene_line : Option (List ℕ) → List ℕ
scene_line None = no_scene_line
scene_line (Some g) = name_line (codes "scene ") g

unfoldable pub configuration_text : State → List ℕ
configuration_text s =
    steps_line s.taken ++ moment_line s.moments.present ++ application_line s.application ++ scene_line s.scene

-- what is under way

unfoldable pub begun_word : List ℕ
begun_word = codes "transition begun"

unfoldable pub begun_line : List ℕ
begun_line = begun_word ++ 10 ∷ []

abbrev pub transition_line : Transition → List ℕ
transition_line transition.Rests = []
transition_line (transition.Awaits g) = name_line (codes "awaits ") g
transition_line transition.Begun = begun_line

abbrev pub interaction_line : Option Interaction → List ℕ
interaction_line None = []
interaction_line (Some i) = object_line (codes "interacts ") i.object

unfoldable pub locks_line : ℕ → List ℕ
locks_line n = number_line (codes "locks ") n

unfoldable pub going_text : State → List ℕ
going_text s = transition_line s.transition ++ interaction_line s.interaction ++ locks_line s.locks

abbrev pub late_line : List ℕ → List ℕ
late_line g = name_line (codes "late ") g

-- variables

unfoldable pub held_line : ObjRef → Value → List ℕ
held_line r v = codes "variable " ++ ref_text r ++ codes " holds " ++ short_value v ++ 10 ∷ []

abbrev pub line_if : ObjRef → Option Value → List ℕ
line_if r None = []
line_if r (Some v) = held_line r v

abbrev pub variable_line : Object → List ℕ
variable_line o = line_if o.fixed.key (value_held o.fixed o.body)

-- the timers that are set, in the order in which they are due

unfoldable pub timer_line : Timer → List ℕ
timer_line t =
    codes "timer " ++ t.group ++ codes " " ++ signed_decimal t.id ++ codes " due " ++ decimal t.due ++ 10 ∷ []

abbrev pub timers_text : State → List ℕ
timers_text s = flat_map timer_line (due most_moment s.application s.timers)

-- what waits, and what is shown

unfoldable pub waits_line : Waiting → List ℕ
waits_line w = codes "waits " ++ waiting_text w ++ 10 ∷ []

abbrev pub stack_line : ObjRef → List ℕ
stack_line r = object_line (codes "stack ") r

-- WHAT IS TOLD OF A STATE
unfoldable pub state_text : State → List ℕ
state_text s =
    configuration_text s ++ going_text s ++ flat_map late_line s.late ++ flat_map variable_line (all s.objects)
    ++ timers_text s ++ flat_map waits_line s.queue ++ flat_map stack_line (reverse s.stack)
