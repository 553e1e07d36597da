use Rattle.std.proofs.Common.{◌≡◌, ◌++◌, drop}
use Rattle.mh_flow.specs.Solved.{named}
use Rattle.mh_flow.proofs.lists.named_by.Given as goal

abbrev pub invariant-loop-number : goal.invariant-loop-number
invariant-loop-number l = l.list.items ++ named l.chart.members (drop l.number-index l.numbers) ≡ named l.chart.members l.numbers
