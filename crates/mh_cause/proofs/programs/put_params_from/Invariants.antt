use Rattle.std.proofs.Common.{◌≡◌, ◌≤◌, ◌+◌, ◌++◌, [], length}
use Rattle.mh_cause.specs.Calls.{params_from}
use Rattle.mh_cause.proofs.programs.put_params_from.Given as goal

abbrev pub invariant-loop-left : goal.invariant-loop-left
invariant-loop-left l =
    (l.text ++ params_from l.front l.count l.param l.left ≡ l.fn.text ++ params_from [] 1 l.fn.first l.fn.others)
    × (l.count + length l.left ≤ 1 + length l.others)

abbrev pub decreases-loop-left : goal.decreases-loop-left
decreases-loop-left l = length l.left
