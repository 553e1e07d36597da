use Rattle.std.proofs.Common.{◌≡◌, ◌++◌}
use Rattle.std.specs.List.{flat_map}
use Rattle.mh_why.specs.Painting.{painted_whole, painted}
use Rattle.mh_why.proofs.paint.painted.Given as goal

abbrev pub invariant-loop-line : goal.invariant-loop-line
invariant-loop-line l = l.painted ++ flat_map painted_whole l.line-iterator ≡ painted l.fn.text
