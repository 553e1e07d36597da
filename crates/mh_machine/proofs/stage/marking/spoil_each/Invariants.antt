use Rattle.std.proofs.Common.{◌≡◌}
use Rattle.std.specs.Prelude.{map, take}
use Rattle.mh_model.specs.State.{all}
use Rattle.mh_machine.specs.Marks.{SpoilsEach}
use Rattle.mh_machine.proofs.stage.marking.spoil_each.Given as goal

abbrev pub invariant-loop-at : goal.invariant-loop-at
invariant-loop-at l =
    (l.screen.planes ≡ l.initial.screen.planes)
    × SpoilsEach (all l.objects) (take l.at-index l.each) l.initial.screen.marks l.screen.marks
