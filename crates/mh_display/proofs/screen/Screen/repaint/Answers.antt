use Rattle.std.specs.Prelude.{List, []}
use Rattle.std.proofs.Common.{rules, subst}
use Rattle.mh_base.specs.declared.obj_ref.ObjRef.{ObjRef}
use Rattle.mh_model.specs.State.{all}
use Rattle.mh_display.specs.Painting.{IsDown}
use Rattle.mh_display.proofs.DownLemmas.{repainted, clean_after, right_already}
use Rattle.mh_display.proofs.screen.Screen.repaint.Goals as goal

pub returns-then-is_clean-clause-right : goal.returns-then-is_clean-clause-right
returns-then-is_clean-clause-right c =
    right_already (all c.args.objects.now) c.args.stack.now.places c.args.self.now c.requires (c.is_clean.ensures (search rules)) c.is_whole.ensures

pub returns-clause-right : goal.returns-clause-right
returns-clause-right c =
    repainted (all c.args.objects.now) c.args.stack.now.places c.args.self.now _ _ _ c.requires c.renew.ensures
    (subst (λ (rs : List ObjRef). IsDown (all c.args.objects.now) rs [] c.renew.new.self c.paint_down.new.screen) c.down.ensures c.paint_down.ensures)
    c.settle.ensures.settled c.settle.ensures.whole

pub returns-clause-clean : goal.returns-clause-clean
returns-clause-clean c = clean_after _ _ c.settle.ensures.settled
