-- What a post beside a seal comes to.
use Rattle.std.specs.Prelude.{ℕ, Bool, false, ◌||◌, not, if◌then◌else◌, List, Option, Some, None, is_none}
use Rattle.std.specs.Option.{option_or}
use Rattle.std.specs.Str.{bytes_eq}
use Rattle.mh_model.specs.declared.input.Input.{Input}
use Rattle.mh_model.specs.declared.input.Input.TheVariants as input
use Rattle.mh_model.specs.declared.input.Obstacle.{Obstacle}
use Rattle.mh_model.specs.declared.input.Obstacle.TheVariants as obstacle
use Rattle.mh_model.specs.Service.{Service}
use Rattle.mh_model.specs.State.{State}
use Rattle.mh_model.specs.Step.{obstacle_if, posted_by}
use Rattle.mh_service.specs.Resolved.{parts_of}
use Rattle.mh_service.specs.Sealed.{unfilled_by, with_group}

-- no service can have the group in the place of the stub, or the name is that of the active application
abbrev pub is_unfillable : List ℕ → Input → Service → Bool
is_unfillable application (input.Scene g x) v = bytes_eq g application || not (is_none (unfilled_by v g x))
is_unfillable application i v = false

-- why an input is refused, if it is, where the caller says whether a scene's file is another than the sealed one
abbrev pub brought_obstacle : Bool → Input → State → Option Obstacle
brought_obstacle differs i s =
    option_or (obstacle_if differs i s) (if is_unfillable s.application i s.service then Some obstacle.Differs else None)

-- the service with the group of a scene's file in the place of the scene's stub
abbrev pub brought : Input → Service → Service
brought (input.Scene g x) v = with_group g (parts_of g x) v
brought i v = v

-- the group is put there, and the input waits: `sealed_posted` of the laws, with a seal that goes by digests
abbrev pub posted_brought : Input → State → State
posted_brought i s = posted_by None i (record s { service = brought i s.service })
