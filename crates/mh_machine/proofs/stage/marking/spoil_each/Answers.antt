use Rattle.std.specs.Prelude.{List, ◌++◌, ◌∷◌, [], take}
use Rattle.std.proofs.Common.{refl, ap, sym, ◌∙◌, subst}
use Rattle.std.proofs.lemmas.List.{take_more, take_all}
use Rattle.mh_base.specs.declared.obj_ref.ObjRef.{ObjRef}
use Rattle.mh_model.specs.State.{all}
use Rattle.mh_machine.specs.Marks.{SpoilsEach}
use Rattle.mh_machine.proofs.MarkLemmas.{spoils_none, spoils_more}
use Rattle.mh_machine.proofs.stage.marking.spoil_each.Goals as goal

pub loop-at-init : goal.loop-at-init
loop-at-init c = (refl, spoils_none (all c.args.objects.now) c.args.screen.now.marks c.args.screen.now.marks refl)

pub loop-at-preserved : goal.loop-at-preserved
loop-at-preserved c = (
  c.spoil_at.ensures.same ∙ c.loop-at.invariant.0,
  subst (λ (rs : List ObjRef). SpoilsEach (all c.args.objects.now) rs c.args.screen.now.marks c.spoil_at.new.screen.marks)
      (sym (take_more c.args.each.now c.loop-at.at-index c.at-item.result c.loop-at-test.true ∙ ap (λ (x : ObjRef). take c.loop-at.at-index c.args.each.now ++ x ∷ []) (sym c.at-item.is)))
      (spoils_more (all c.args.objects.now) (take c.loop-at.at-index c.args.each.now) c.at-item.result c.args.screen.now.marks c.loop-at.screen.marks c.spoil_at.new.screen.marks c.loop-at.invariant.1 c.spoil_at.ensures.spoilt),
)

pub returns-clause-same : goal.returns-clause-same
returns-clause-same c = c.loop-at.invariant.0

pub returns-clause-spoilt : goal.returns-clause-spoilt
returns-clause-spoilt c =
    subst (λ (rs : List ObjRef). SpoilsEach (all c.args.objects.now) rs c.args.screen.now.marks c.loop-at.screen.marks)
    (take_all c.loop-at.at-index c.args.each.now c.loop-at-test.false) c.loop-at.invariant.1
