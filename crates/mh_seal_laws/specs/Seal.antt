-- A machine over a service that is known in part, with the seal of the whole service.
use Rattle.std.specs.Prelude.{ℕ, Bool, false, not, List, [], ◌∷◌, Option, Some, None}
use Rattle.mh_group.specs.declared.written.Written.{Written}
use Rattle.mh_model.specs.declared.input.Input.{Input}
use Rattle.mh_model.specs.declared.input.Input.TheVariants as input
use Rattle.mh_model.specs.declared.input.Obstacle.{Obstacle}
use Rattle.mh_model.specs.declared.input.Move.{Move}
use Rattle.mh_model.specs.declared.input.Move.TheVariants as move
use Rattle.mh_model.specs.Service.{Service}
use Rattle.mh_model.specs.State.{State}
use Rattle.mh_model.specs.Step.{obstacle_if, posted_by, stepped}
use Rattle.mh_seal_laws.specs.Part.{beside}

-- what a seal says of the file of a late scene: whether it is the one that was sealed, and the service with its group in the
-- place of what stood for it
pub record Seal : Type 0 where
  pub fits : List ℕ → Written → Bool
  pub grown : List ℕ → Written → Service → Service

-- the input is a scene's file that was not sealed
abbrev pub is_unfit : Seal → Input → Bool
is_unfit k (input.Scene g x) = not (k.fits g x)
is_unfit k _ = false

abbrev pub with_brought : Seal → Input → Service → Service
with_brought k (input.Scene g x) v = k.grown g x v
with_brought k _ v = v

-- A post is refused as ever, but that the seal says whether a file differs; a file that is taken up is put into the service.

abbrev pub sealed_by : Option Obstacle → Seal → Input → State → State
sealed_by None k i t = posted_by None i (beside (with_brought k i t.service) t)
sealed_by (Some o) k i t = t

abbrev pub sealed_obstacle : Seal → Input → State → Option Obstacle
sealed_obstacle k i t = obstacle_if (is_unfit k i) i t

abbrev pub sealed_posted : Seal → Input → State → State
sealed_posted k i t = sealed_by (sealed_obstacle k i t) k i t

abbrev pub sealed_moved : Seal → Move → State → State
sealed_moved k (move.Post i) t = sealed_posted k i t
sealed_moved k move.Step t = stepped t

-- a run makes its moves in order
abbrev pub sealed_run : Seal → List Move → State → State
sealed_run k [] t = t
sealed_run k (m ∷ ms) t = sealed_run k ms (sealed_moved k m t)
