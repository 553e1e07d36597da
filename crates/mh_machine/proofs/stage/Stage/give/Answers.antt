use Rattle.mh_machine.proofs.StageLemmas.{right_given}
use Rattle.mh_machine.proofs.stage.Stage.give.Goals as goal

pub invariant_of-self : goal.invariant_of-self
invariant_of-self c =
    right_given c.args.value c.args.at.now c.self.inside.objects c.give.new.self c.self.inside.stack.places c.self.inside.screen c.give.ensures.given c.self.invariant
