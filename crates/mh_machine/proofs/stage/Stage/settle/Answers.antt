use Rattle.mh_model.specs.State.{all}
use Rattle.mh_machine.proofs.StageLemmas.{right_painted}
use Rattle.mh_machine.proofs.stage.Stage.settle.Goals as goal

pub invariant_of-self : goal.invariant_of-self
invariant_of-self c = right_painted (all c.self.inside.objects) c.self.inside.stack.places c.repaint.new.self c.repaint.ensures.right
