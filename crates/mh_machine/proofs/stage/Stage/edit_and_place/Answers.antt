use Rattle.std.specs.Prelude.{List, map}
use Rattle.std.proofs.Common.{rules}
use Rattle.mh_model.specs.State.{all}
use Rattle.mh_machine.proofs.MarkLemmas.{placed_paint, right_each}
use Rattle.mh_machine.proofs.stage.Stage.edit_and_place.Goals as goal

pub invariant_of-self-2 : goal.invariant_of-self-2
invariant_of-self-2 c =
    right_each (map (λ p. p.0) c.args.placed.now) (all c.self.inside.objects) (all c.edit_and_place.new.self) c.self.inside.stack.places
    c.self.inside.screen c.spoil_placed.new.screen c.spoil_placed-2.new.screen
    c.spoil_placed.ensures.same c.spoil_placed-2.ensures.same c.spoil_placed.ensures.spoilt c.spoil_placed-2.ensures.spoilt
    (placed_paint c.args.at.now c.args.edit c.args.placed.now c.self.inside.objects c.edit_and_place.new.self (search rules) c.in_ok-edit_and_place.ensures.done)
    c.self.invariant
