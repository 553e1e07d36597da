use Rattle.std.proofs.Common.{refl}
use Rattle.mh_model.specs.Edits.{edited}
use Rattle.mh_model.specs.Service.{object_at}
use Rattle.mh_model.specs.State.{all}
use Rattle.mh_machine.proofs.StageLemmas.{right_changed}
use Rattle.mh_machine.proofs.stage.Stage.edit_seen.Goals as goal

pub invariant_of-self-2 : goal.invariant_of-self-2
invariant_of-self-2 c =
    right_changed (edited c.args.edit) c.args.at.now c.self.inside.objects c.edit.new.self c.self.inside.stack.places
    (object_at c.args.at.now (all c.self.inside.objects)) (object_at c.args.at.now (all c.edit.new.self))
    c.self.inside.screen c.spoil_at.new.screen c.spoil_at-2.new.screen
    c.in_ok-edit.ensures.done refl refl c.spoil_at.ensures.same c.spoil_at-2.ensures.same
    c.spoil_at.ensures.spoilt c.spoil_at-2.ensures.spoilt c.self.invariant
