use Rattle.std.specs.Prelude.{Some}
use Rattle.std.proofs.Common.{◌∙◌}
use Rattle.mh_model.specs.Faults.{named_wrongs}
use Rattle.mh_model.proofs.ClassLemmas.{least_alike, named_by_class}
use Rattle.mh_model.proofs.wrong.objects.named_behind.Goals as goal

pub returns : goal.returns
returns g c =
    let known = g.K.Known.known c.args.known.now in
    let name = c.args.act.now.name in
    let variable = c.args.variable.now in
    c.named_each.ensures
    ∙ least_alike g.R.Rank.order known.class_of (named_wrongs known name (Some variable))
    (named_by_class g.R.Rank.order known name (Some variable))
    c.args.best.now c.of_each_class-some.result.now (known.refers variable) c.of_each_class-some.ensures
