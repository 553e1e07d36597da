use Rattle.std.proofs.Common.{◌≡◌, length}
use Rattle.std.specs.Prelude.{ℕ, List, map}
use Rattle.std.specs.Borrow.{Bor}
use Rattle.std.specs.List.{list_any}
use Rattle.mh_why.specs.Painting.{begins_with}
use Rattle.mh_look.specs.Printed.{is_verdict}
use Rattle.mh_look.proofs.report.printed.is_verdict.Given as goal

abbrev pub invariant-loop-left : goal.invariant-loop-left
invariant-loop-left l = list_any (λ word. begins_with word l.bytes) (map (λ (word : Bor (List ℕ)). word.now) l.left) ≡ is_verdict l.bytes

abbrev pub decreases-loop-left : goal.decreases-loop-left
decreases-loop-left l = length l.left
