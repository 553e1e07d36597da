-- The queue, as a contract sees it, and what is counted of it.
use Rattle.std.specs.Prelude.{◌≡◌, ℕ, List}
use Rattle.mh_model.specs.declared.input.Waiting.{Waiting}
use Rattle.mh_model.specs.Step.{inputs, time_ahead}

-- what waits, the first in front, and for how much more there is room
pub record Queued : Type 0 where
  pub items : List Waiting
  pub room : ℕ

-- so many inputs wait, and so much time will have passed when all is taken
pub record AreCounted (ws : List Waiting) (n t : ℕ) : Type 0 where
  pub number : n ≡ inputs ws
  pub time : t ≡ time_ahead ws
