use Rattle.std.specs.Prelude.{Some, drop}
use Rattle.std.specs.List.{flat_map}
use Rattle.std.proofs.Common.{◌≡◌}
use Rattle.mh_model.specs.Faults.{least, named_wrongs}
use Rattle.mh_model.proofs.wrong.objects.named_each.Given as goal

abbrev pub invariant-loop-at : goal.invariant-loop-at
invariant-loop-at g l = least g.R.Rank.order l.best (flat_map (named_wrongs (g.K.Known.known l.known) l.act.name (Some l.variable)) (drop l.at-index l.objects)) ≡ least g.R.Rank.order l.fn.best (flat_map (named_wrongs (g.K.Known.known l.known) l.act.name (Some l.variable)) l.objects)
