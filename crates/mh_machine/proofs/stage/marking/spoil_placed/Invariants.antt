use Rattle.std.proofs.Common.{◌≡◌}
use Rattle.std.specs.Prelude.{map, take}
use Rattle.mh_model.specs.State.{all}
use Rattle.mh_machine.specs.Marks.{SpoilsEach}
use Rattle.mh_machine.proofs.stage.marking.spoil_placed.Given as goal

abbrev pub invariant-loop-place : goal.invariant-loop-place
invariant-loop-place l =
    (l.screen.planes ≡ l.initial.screen.planes)
    × SpoilsEach (all l.objects) (map (λ p. p.0) (take l.place-index l.placed)) l.initial.screen.marks l.screen.marks
