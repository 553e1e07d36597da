use Rattle.std.proofs.Common.{◌∙◌}
use Rattle.mh_model.specs.Faults as spec
use Rattle.mh_model.proofs.ClassLemmas.{least_alike, untaken_by_class}
use Rattle.mh_model.proofs.wrong.objects.untaken.Goals as goal

pub returns : goal.returns
returns g c =
    let known = g.K.Known.known c.args.known.now in
    let fits = g.F.Fit.fits c.args.fit.now in
    let target = c.args.act.now.target in
    c.untaken_by.ensures
    ∙ least_alike g.R.Rank.order known.class_of (spec.untaken known fits (spec.target_variable target))
    (untaken_by_class g.R.Rank.order known fits (spec.target_variable target))
    c.args.best.now c.targets_of_each_class-some.result.now (spec.targets known target) c.targets_of_each_class-some.ensures
