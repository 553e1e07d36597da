use Rattle.std.proofs.Common.{◌≡◌, ◌+◌, ◌≤◌, ◌++◌, length}
use Rattle.std.specs.Option.{option_map_or, option_copied}
use Rattle.mh_look.specs.LineChanges.{changed_steps, steps, steps_behind}
use Rattle.mh_look.proofs.comparison.line_changes.put_changed_steps.Given as goal

abbrev pub invariant-loop-ones : goal.invariant-loop-ones
invariant-loop-ones l =
    (l.text ++ changed_steps l.passed (steps_behind (option_copied l.ones)) (steps_behind (option_copied l.others)) ≡ l.initial.text ++ changed_steps 0 (steps l.first) (steps l.second))
    × (l.passed + option_map_or (λ b. length b + 1) (option_copied l.ones) 0 ≤ length l.first + 1)

abbrev pub decreases-loop-ones : goal.decreases-loop-ones
decreases-loop-ones l = option_map_or (λ b. length b + 1) (option_copied l.ones) 0
