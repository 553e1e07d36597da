use Rattle.std.specs.Prelude.{◌+◌, drop, Option, Some}
use Rattle.std.specs.List.{flat_map}
use Rattle.std.proofs.Common.{◌∙◌, ap}
use Rattle.mh_model.specs.Faults.{Wrong, least, admitted_wrongs}
use Rattle.mh_model.proofs.LeastLemmas.{least_next}
use Rattle.mh_model.proofs.wrong.objects.admitted_each.Goals as goal

pub loop-at-preserved : goal.loop-at-preserved
loop-at-preserved g c =
    let at = admitted_wrongs (g.K.Known.known c.args.known.now) c.args.act.now.name (Some c.args.variable.now) in
    let objects = c.args.objects.now in
    let i = c.loop-at.at-index in
    ap (λ (b : Option Wrong). least g.R.Rank.order b (flat_map at (drop (i + 1) objects))) c.admitted.ensures
    ∙ least_next g.R.Rank.order c.loop-at.best at objects i c.at-item.result c.loop-at-test.true c.at-item.is
    ∙ c.loop-at.invariant
