-- What a step answers, and what is left to do.
use Rattle.std.specs.Prelude.{◌≡◌, Option, Some, None, slice_get, if◌then◌else◌, Bool, true, false}
use Rattle.mh_model.specs.declared.fault.Fault.{Fault}
use Rattle.mh_model.specs.declared.input.Waiting.{Waiting}
use Rattle.mh_model.specs.declared.item.Item.{Item}
use Rattle.mh_model.specs.State.{State}
use Rattle.mh_model.specs.Step.{done, is_idle, step}
use Rattle.mh_machine.specs.Plans.{taken_from}
use Rattle.mh_model.specs.Stuck.{stuck}
use Rattle.mh_model.specs.declared.rest.Rest.{Rest}
use Rattle.mh_model.specs.declared.rest.Rest.TheVariants as rest
use Rattle.mh_machine.specs.declared.stepped.Stepped.{Stepped}
use Rattle.mh_machine.specs.declared.stepped.Stepped.TheVariants as answer

abbrev pub judged : Option Fault → Stepped
judged None = answer.Did
judged (Some f) = answer.Faulted f

abbrev pub answer_by : Option Item → Option Waiting → State → Stepped
answer_by (Some i) next s = judged (stuck i s)
answer_by None (Some w) s = answer.Did
answer_by None None s = answer.Idle

-- Ended where the engine has, Idle where there is nothing to do, Faulted where the first item is stuck, else Did
abbrev pub answer_of : State → Stepped
answer_of s = if s.ended then answer.Ended else answer_by (slice_get s.work 0) (slice_get s.queue 0) s

abbrev pub is_faulted : Stepped → Bool
is_faulted answer.Idle = false
is_faulted answer.Ended = false
is_faulted answer.Did = false
is_faulted (answer.Faulted f) = true

-- what is left to do
abbrev pub rest_of : State → Rest
rest_of s = if s.ended then rest.Ended else (if is_idle s then rest.Idle else rest.More)

-- a step was made, and the first item was done by it
abbrev pub IsMade : State → State → Type 0
IsMade before after = (after ≡ step before) × (answer.Did ≡ answer_of before)

-- the first item is not stuck, and to do it makes this of the state
abbrev pub Does : State → State → Type 0
Does before after = (i : Item) × ((slice_get before.work 0 ≡ Some i) × ((stuck i before ≡ None) × (done i before ≡ after)))

-- or is to take it off
abbrev pub IsPassed : State → Type 0
IsPassed s = Does s (taken_from s)
