-- How an engine takes posts: one that has all files, or one that goes by a seal.
use Rattle.std.specs.Prelude.{Option, Some, None}
use Rattle.std.specs.Option.{option_map}
use Rattle.mh_machine.specs.declared.refusal.RefusedWhy.{RefusedWhy}
use Rattle.mh_machine.specs.Refusal.{post_refusal, refusal_for}
use Rattle.mh_machine.specs.Sealed.{brought_obstacle}
use Rattle.mh_model.specs.declared.input.Input.{Input}
use Rattle.mh_model.specs.declared.input.Obstacle.{Obstacle}
use Rattle.mh_model.specs.State.{State}
use Rattle.mh_model.specs.Step.{posted}
use Rattle.mh_seal.specs.declared.seal.Seal.{Seal}
use Rattle.mh_seal_laws.specs.Seal.{is_unfit, sealed_posted}
use Rattle.mh_seal_laws.specs.Told.{by_told}

-- why a post is refused, if it is, and the state behind it
pub record Posts : Type 0 where
  pub refusal : Input → State → Option RefusedWhy
  pub behind : Input → State → State

-- an engine that has all files
abbrev pub whole : Posts
whole = record { refusal = post_refusal; behind = posted }

-- why an engine that goes by a seal refuses a post, if it does
abbrev pub seal_obstacle : Seal → Input → State → Option Obstacle
seal_obstacle s i t = brought_obstacle (is_unfit (by_told s) i) i t

abbrev pub behind_by : Option Obstacle → Seal → Input → State → State
behind_by None s i t = sealed_posted (by_told s) i t
behind_by (Some o) s i t = t

-- what is taken up is posted as in the sealed run of the laws
abbrev pub by_seal : Seal → Posts
by_seal s = record {
  refusal = λ i t. option_map refusal_for (seal_obstacle s i t);
  behind = λ i t. behind_by (seal_obstacle s i t) s i t;
}

-- one that goes by this seal, if there is one
abbrev pub posts_of : Option Seal → Posts
posts_of None = whole
posts_of (Some s) = by_seal s
