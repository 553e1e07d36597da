use Rattle.std.proofs.Common.{refl}
use Rattle.mh_model.specs.Service.{object_at}
use Rattle.mh_model.specs.State.{all}
use Rattle.mh_machine.proofs.StageLemmas.{right_moved}
use Rattle.mh_machine.proofs.stage.Stage.reorder.Goals as goal

pub invariant_of-self : goal.invariant_of-self
invariant_of-self c =
    right_moved (all c.self.inside.objects) c.self.inside.stack.places c.reorder.new.stack.places c.args.at c.args.how
    (object_at c.args.at (all c.self.inside.objects)) c.self.inside.screen c.spoil_at.new.screen
    c.reorder.ensures refl c.spoil_at.ensures.same c.spoil_at.ensures.spoilt c.self.invariant
