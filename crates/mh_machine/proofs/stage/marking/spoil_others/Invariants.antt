use Rattle.std.specs.Prelude.{◌≡◌, ℕ, List, length}
use Rattle.mh_model.specs.State.{all}
use Rattle.mh_machine.specs.Marks.{SpoilsOthers}
use Rattle.mh_machine.proofs.stage.marking.spoil_others.Given as goal

abbrev pub invariant-loop-at : goal.invariant-loop-at
invariant-loop-at l =
    (l.screen.planes ≡ l.initial.screen.planes)
    × ((u : List ℕ) → SpoilsOthers (all l.objects) l.group l.left l.screen.marks u → SpoilsOthers (all l.objects) l.group l.initial.left l.initial.screen.marks u)

abbrev pub decreases-loop-at : goal.decreases-loop-at
decreases-loop-at l = length l.left
