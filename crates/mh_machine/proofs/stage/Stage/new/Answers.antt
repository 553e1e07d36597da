use Rattle.std.specs.Prelude.{List}
use Rattle.std.proofs.Common.{sym, subst}
use Rattle.mh_base.specs.declared.obj_ref.ObjRef.{ObjRef}
use Rattle.mh_display.specs.Surface.{IsRight}
use Rattle.mh_model.specs.State.{all}
use Rattle.mh_machine.proofs.StageLemmas.{right_empty}
use Rattle.mh_machine.proofs.stage.Stage.new.Goals as goal

pub invariant_of-result : goal.invariant_of-result
invariant_of-result c =
    subst (λ (x : List ObjRef). IsRight (all c.new-2.result) x c.in_ok-screen.screen) (sym c.new-3.ensures)
    (right_empty (all c.new-2.result) c.in_ok-screen.screen c.in_ok-screen.ensures.black)
