use Rattle.std.specs.Prelude.{get_or}
use Rattle.std.proofs.Common.{◌≡◌, rules, length, refl, subst, true≢false, sym, ◌∙◌}
use Rattle.std.proofs.lemmas.Option.{slice_get_read}
use Rattle.mh_base.specs.declared.obj_ref.ObjRef.{ObjRef}
use Rattle.mh_laws.proofs.EachLemmas.{got_among}
use Rattle.mh_layers.specs.Applied.{CountsNode}
use Rattle.mh_layers.proofs.DoingLemmas.{none_more}
use Rattle.mh_layers.proofs.arrows.applied.first_of.Goals as goal

pub returns-then-branch-clause-among : goal.returns-then-branch-clause-among
returns-then-branch-clause-among c =
    got_among c.args.objects.now c.loop-at.at-index c.at-item.result
    (slice_get_read c.args.objects.now (length c.args.objects.now) c.loop-at.at-index c.at-item.result refl c.loop-at-test.true (search rules))

pub loop-at-preserved : goal.loop-at-preserved
loop-at-preserved c =
    let s = c.args.here.now in
    let item : get_or c.args.objects.now c.loop-at.at-index c.at-item.result ≡ c.at-item.result = search rules in
    none_more s.reading s.config c.args.act.now c.args.objects.now c.loop-at.at-index c.at-item.result c.args.node.now c.loop-at-test.true c.loop-at.invariant
    (λ counts. let never = c.in_ok-counts_at.ensures.all (subst (λ (o : ObjRef). CountsNode s.reading s.config c.args.act.now o c.args.node.now) item counts) in
    absurd (true≢false (sym never ∙ c.if-branch.false)))
