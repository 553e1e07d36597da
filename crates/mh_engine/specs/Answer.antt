-- What an engine refuses besides what its machine does.
use Rattle.std.specs.Prelude.{ℕ, Bool, true, not, ◌==◌, ◌||◌, ◌&&◌, List, [], ◌∷◌, Option, Some, None, if◌then◌else◌}
use Rattle.mh_model.specs.State.{State}
use Rattle.mh_model.specs.declared.input.Move.{Move}
use Rattle.mh_model.specs.declared.input.Move.TheVariants as move
use Rattle.mh_model.specs.Service.{Service}
use Rattle.mh_model.specs.Step.{is_empty, is_settled, moved}
use Rattle.mh_model.specs.Limits.{most_steps}
use Rattle.mh_engine.specs.declared.refusal.StartError.{StartError}
use Rattle.mh_engine.specs.declared.refusal.StartError.TheVariants as unstarted

-- an engine has the built-in programs alone
abbrev pub start_refusal : Service → Option StartError
start_refusal s = if is_empty s.programs then None else Some unstarted.ProgramsDiffer

-- there is something to do with the move: with a step only where something is left to do
abbrev pub is_left : Move → State → Bool
is_left (move.Post i) s = true
is_left move.Step s = not (is_settled s)

-- a step move is not counted where all steps are counted and there is something to do
abbrev pub is_counted : Move → State → Bool
is_counted (move.Post i) s = true
is_counted move.Step s = not (s.taken == most_steps) || is_settled s

-- each step move of a run is counted
abbrev pub are_counted : List Move → State → Bool
are_counted [] s = true
are_counted (m ∷ ms) s = is_counted m s && are_counted ms (moved m s)

-- the number of a refusal; want of memory has none
abbrev pub start_number : StartError → Option ℕ
start_number unstarted.NoMemory = None
start_number unstarted.ProgramsDiffer = Some 50
