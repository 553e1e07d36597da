-- The works of a machine: its state, and which cells of its picture are still to be painted.
use Rattle.std.specs.Prelude.{◌≡◌, false, ℕ, ◌<◌, List}
use Rattle.mh_model.specs.State.{State}
use Rattle.mh_model.specs.Step.{advanced, is_settled}

pub record Working : Type 0 where
  pub state : State
  pub marks : List ℕ

-- some of so many steps were made, and there is more to do
pub record IsPartly (most : ℕ) (before after : State) : Type 0 where
  pub made : ℕ
  pub fewer : made < most
  pub after_them : after ≡ advanced made before
  pub more : is_settled after ≡ false
