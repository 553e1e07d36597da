use Rattle.std.proofs.Common.{◌+◌, ◌∙◌, Option, sym, subst, take, rules}
use Rattle.mh_verify.specs.declared.coming.Coming.{Coming}
use Rattle.mh_verify.specs.Naming.{IsBest, IsSoonestOf}
use Rattle.mh_verify.proofs.NearestLemmas.{settled_next}
use Rattle.mh_verify.proofs.SoonestLemmas.{best_next}
use Rattle.mh_verify.proofs.named_reference.soonest_origin.Goals.{then-may_be_sooner+in_ok-next, else-may_be_sooner}
use Rattle.mh_verify.proofs.named_reference.soonest_origin.Goals as goal

pub loop-at-preserved : goal.loop-at-preserved
loop-at-preserved c =
    elim c.if-may_be_sooner.branch [
      | then-may_be_sooner+in_ok-next w ↦
          subst (λ (o : Option Coming). IsBest c.args.service.now c.args.config.now c.args.holder.now (take (c.loop-at.at-index + 1) c.args.origins.now) o) (sym w.best-is)
          (subst (λ (k : Coming). IsSoonestOf c.args.service.now c.args.config.now c.args.holder.now (take (c.loop-at.at-index + 1) c.args.origins.now) k) (sym w.sooner.ensures)
          (best_next c.args.service.now c.args.config.now c.args.holder.now c.args.origins.now c.loop-at.at-index c.at-item.result c.loop-at.best w.in_ok-next.next c.loop-at-test.true (search rules) c.loop-at.invariant w.in_ok-next.ensures.at w.in_ok-next.ensures.chain))
      | else-may_be_sooner w ↦
          subst (λ (o : Option Coming). IsBest c.args.service.now c.args.config.now c.args.holder.now (take (c.loop-at.at-index + 1) c.args.origins.now) o) (sym w.best-is)
          (settled_next c.args.service.now c.args.config.now c.args.holder.now c.args.links.now c.args.origins.now c.loop-at.at-index c.at-item.result c.loop-at.best c.loop-at-test.true (search rules) c.loop-at.invariant (sym c.may_be_sooner.ensures ∙ w.if-may_be_sooner.false) c.requires.first)
    ]
