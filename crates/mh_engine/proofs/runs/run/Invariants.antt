use Rattle.std.specs.Prelude.{◌≡◌, take, true}
use Rattle.mh_model.specs.Step.{run}
use Rattle.mh_engine.specs.Answer.{are_counted}
use Rattle.mh_engine.specs.Play.{budget_after}
use Rattle.mh_engine.proofs.runs.run.Given as goal

abbrev pub invariant-loop-made : goal.invariant-loop-made
invariant-loop-made l =
    (l.engine.state ≡ run (take l.made l.moves) l.fn.engine.state)
    × (are_counted (take l.made l.moves) l.fn.engine.state ≡ true)
    × (l.engine.accepted ≡ l.fn.engine.accepted)
    × (l.engine.bounds ≡ l.fn.engine.bounds)
    × (l.engine.budget ≡ budget_after l.fn.engine.bounds (take l.made l.moves) l.fn.engine.state l.fn.engine.budget)
