use Rattle.std.proofs.Common.{◌≡◌, ◌++◌, drop}
use Rattle.mh_cause.specs.Candidates.{fitting}
use Rattle.mh_cause.proofs.candidates.push_fitting.Given as goal

abbrev pub invariant-loop-part : goal.invariant-loop-part
invariant-loop-part l =
    l.numbers.items ++ fitting l.place (drop l.part-index l.parts) ≡ l.initial.numbers.items ++ fitting l.place l.parts
