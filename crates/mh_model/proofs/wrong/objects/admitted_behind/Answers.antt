use Rattle.std.specs.Prelude.{Some}
use Rattle.std.proofs.Common.{◌∙◌, sym}
use Rattle.mh_model.specs.Faults.{admitted_wrongs}
use Rattle.mh_model.proofs.ClassLemmas.{admitted_by_class, least_alike}
use Rattle.mh_model.proofs.wrong.objects.admitted_behind.Goals as goal

pub returns-else-is_transition : goal.returns-else-is_transition
returns-else-is_transition g c =
    let known = g.K.Known.known c.args.known.now in
    let name = c.args.act.now.name in
    let variable = c.args.variable.now in
    c.admitted_each-else-is_transition.ensures
    ∙ least_alike g.R.Rank.order known.class_of (admitted_wrongs known name (Some variable))
    (admitted_by_class g.R.Rank.order known name (Some variable) (sym c.is_transition.ensures ∙ c.if-is_transition.false))
    c.args.best.now c.of_each_class-some.result.now (known.refers variable) c.of_each_class-some.ensures
