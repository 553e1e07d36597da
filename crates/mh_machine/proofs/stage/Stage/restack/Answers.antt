use Rattle.std.proofs.Common.{refl}
use Rattle.mh_model.specs.Service.{object_at}
use Rattle.mh_model.specs.State.{all}
use Rattle.mh_machine.proofs.StageLemmas.{right_fallen}
use Rattle.mh_machine.proofs.stage.Stage.restack.Goals as goal

pub invariant_of-self-in-Fall : goal.invariant_of-self-in-Fall
invariant_of-self-in-Fall c =
    right_fallen (all c.self-in-Fall.inside.objects) c.self-in-Fall.inside.stack.places c.fall.new.self.places c.in-Fall.at
    (object_at c.in-Fall.at (all c.self-in-Fall.inside.objects)) c.self-in-Fall.inside.screen c.spoil_at-in-Fall.new.screen
    c.fall.ensures.places refl c.spoil_at-in-Fall.ensures.same c.spoil_at-in-Fall.ensures.spoilt c.self-in-Fall.invariant
