use Rattle.std.specs.Prelude.{ℕ, List}
use Rattle.std.proofs.Common.{refl, sym, ◌∙◌, subst}
use Rattle.mh_base.specs.declared.obj_ref.ObjRef.{ObjRef}
use Rattle.mh_model.specs.State.{all}
use Rattle.mh_machine.specs.Marks.{SpoilsOthers}
use Rattle.mh_machine.proofs.MarkLemmas.{others_first, others_none, others_stale}
use Rattle.mh_machine.proofs.stage.marking.spoil_others.Goals as goal

pub returns-then-is_all_stale-clause-spoilt : goal.returns-then-is_all_stale-clause-spoilt
returns-then-is_all_stale-clause-spoilt c = others_stale (all c.args.objects.now) c.args.group.now c.args.stack c.args.screen.now.marks (c.is_all_stale.ensures c.if-is_all_stale.true)

pub loop-at-init : goal.loop-at-init
loop-at-init c = (refl, λ u h. h)

pub loop-at-preserved : goal.loop-at-preserved
loop-at-preserved c = (
  c.spoil_other.ensures.same ∙ c.loop-at.invariant.0,
  λ u h.
      c.loop-at.invariant.1 u
      (subst (λ (rs : List ObjRef). SpoilsOthers (all c.args.objects.now) c.args.group.now rs c.loop-at.screen.marks u) (sym c.in-Some.ensures)
      (others_first (all c.args.objects.now) c.args.group.now c.in-Some.at.now c.next.new.self c.loop-at.screen.marks c.spoil_other.new.screen.marks u c.spoil_other.ensures.spoilt h)),
)
