use Rattle.std.specs.Prelude.{drop}
use Rattle.std.specs.List.{flat_map}
use Rattle.std.proofs.Common.{◌≡◌}
use Rattle.mh_model.specs.Faults.{least, untaken, target_variable}
use Rattle.mh_model.proofs.wrong.objects.untaken_by.Given as goal

abbrev pub invariant-loop-at : goal.invariant-loop-at
invariant-loop-at g l = least g.R.Rank.order l.best (flat_map (untaken (g.K.Known.known l.known) (g.F.Fit.fits l.fit) (target_variable l.act.target)) (drop l.at-index l.objects)) ≡ least g.R.Rank.order l.fn.best (flat_map (untaken (g.K.Known.known l.known) (g.F.Fit.fits l.fit) (target_variable l.act.target)) l.objects)
