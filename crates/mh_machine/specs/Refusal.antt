-- What a machine refuses.
use Rattle.std.specs.Prelude.{ℕ, Bool, not, ◌==◌, ◌&&◌, Option, Some, None, if◌then◌else◌}
use Rattle.std.specs.Option.{option_map}
use Rattle.mh_model.specs.declared.file.File.{File}
use Rattle.mh_model.specs.declared.input.Input.{Input}
use Rattle.mh_model.specs.declared.input.Obstacle.{Obstacle}
use Rattle.mh_model.specs.declared.input.Obstacle.TheVariants as obstacle
use Rattle.mh_model.specs.State.{State}
use Rattle.mh_model.specs.Step.{is_settled, obstacle as obstacle_to, preset_obstacle}
use Rattle.mh_model.specs.Limits.{most_steps}
use Rattle.mh_carousel.specs.declared.refusal.ArrivalError.{ArrivalError}
use Rattle.mh_carousel.specs.declared.refusal.ArrivalError.TheVariants as arrival
use Rattle.mh_machine.specs.declared.refusal.RefusedWhy.{RefusedWhy}
use Rattle.mh_machine.specs.declared.refusal.RefusedWhy.TheVariants as refused
use Rattle.mh_machine.specs.declared.refusal.StepError.{StepError}
use Rattle.mh_machine.specs.declared.refusal.StepError.TheVariants as failed

-- Refusals, want of memory aside. What is refused leaves everything as it was, and may be asked for again.

-- why no step is made, if none is: there is something to do, and all steps are counted
abbrev pub step_refusal : State → Option StepError
step_refusal s =
    if is_settled s then None else (if s.taken == most_steps then Some failed.CountFull else None)

-- there is a step to make, and one that is counted
abbrev pub is_ready : State → Bool
is_ready s = not (is_settled s) && not (s.taken == most_steps)

-- how an obstacle is told
abbrev pub refusal_for : Obstacle → RefusedWhy
refusal_for obstacle.Ended = refused.Ended
refusal_for obstacle.TickRange = refused.TickRange
refusal_for obstacle.Begun = refused.Begun
refusal_for obstacle.NotLate = refused.NotLate
refusal_for obstacle.Differs = refused.Differs
refusal_for obstacle.TooLarge = refused.TooLarge
refusal_for obstacle.TooMany = refused.TooMany
refusal_for obstacle.ClockFull = refused.ClockFull
refusal_for obstacle.QueueFull = refused.QueueFull

-- how a file is refused that does not arrive
abbrev pub refusal_for_arrival : ArrivalError → RefusedWhy
refusal_for_arrival arrival.NoMemory = refused.NoMemory
refusal_for_arrival arrival.TooLarge = refused.TooLarge
refusal_for_arrival arrival.TooMany = refused.TooMany

-- what is in the way, where memory was not refused
abbrev pub obstacle_in : RefusedWhy → Option Obstacle
obstacle_in refused.NoMemory = None
obstacle_in refused.Ended = Some obstacle.Ended
obstacle_in refused.TickRange = Some obstacle.TickRange
obstacle_in refused.Begun = Some obstacle.Begun
obstacle_in refused.NotLate = Some obstacle.NotLate
obstacle_in refused.Differs = Some obstacle.Differs
obstacle_in refused.TooLarge = Some obstacle.TooLarge
obstacle_in refused.TooMany = Some obstacle.TooMany
obstacle_in refused.ClockFull = Some obstacle.ClockFull
obstacle_in refused.QueueFull = Some obstacle.QueueFull

-- why a file is not preset, if it is not
abbrev pub preset_refusal : File → State → Option RefusedWhy
preset_refusal f s = option_map refusal_for (preset_obstacle f s)

-- why an input is not posted, if it is not
abbrev pub post_refusal : Input → State → Option RefusedWhy
post_refusal i s = option_map refusal_for (obstacle_to i s)

-- Numbers of refusals. Want of memory has none.

abbrev pub refusal_number : RefusedWhy → Option ℕ
refusal_number refused.NoMemory = None
refusal_number refused.Ended = Some 52
refusal_number refused.TickRange = Some 54
refusal_number refused.Begun = Some 59
refusal_number refused.NotLate = Some 57
refusal_number refused.Differs = Some 58
refusal_number refused.TooLarge = Some 40
refusal_number refused.TooMany = Some 41
refusal_number refused.ClockFull = Some 53
refusal_number refused.QueueFull = Some 51

abbrev pub step_number : StepError → Option ℕ
step_number failed.NoMemory = None
step_number failed.CountFull = Some 56
