use Rattle.std.specs.Prelude.{List}
use Rattle.std.proofs.Common.{rules, subst}
use Rattle.mh_base.specs.declared.obj_ref.ObjRef.{ObjRef}
use Rattle.mh_model.specs.State.{all}
use Rattle.mh_machine.specs.Marks.{SpoilsOthers}
use Rattle.mh_machine.proofs.StageLemmas.{right_exchanged}
use Rattle.mh_machine.proofs.stage.Stage.exchange.Goals as goal

pub invariant_of-self : goal.invariant_of-self
invariant_of-self c =
    right_exchanged c.args.application.now c.self.inside.objects c.exchange.new.self c.args.scene c.self.inside.stack.places c.keep.new.self.places
    c.self.inside.screen c.spoil_others.new.screen c.spoil_unless.new.screen
    c.has_other_scene-was_other.result c.has_other_scene-is_other.result _
    c.exchange.ensures c.keep.ensures c.spoil_others.ensures.same c.spoil_unless.ensures.same
    (subst (λ (rs : List ObjRef). SpoilsOthers (all c.self.inside.objects) c.args.application.now rs c.self.inside.screen.marks c.spoil_others.new.screen.marks) c.up.ensures c.spoil_others.ensures.spoilt)
    c.spoil_unless.ensures.spoilt (search rules)
    c.has_other_scene-was_other.ensures c.has_other_scene-is_other.ensures c.self.invariant
