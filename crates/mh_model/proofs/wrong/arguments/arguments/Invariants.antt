use Rattle.std.proofs.Common.{◌≡◌, length}
use Rattle.mh_model.specs.Faults.{least, arguments_wrongs}
use Rattle.mh_model.proofs.wrong.arguments.arguments.Given as goal

abbrev pub invariant-loop-need : goal.invariant-loop-need
invariant-loop-need g l = least g.R.Rank.order l.best (arguments_wrongs (g.K.Known.known l.known) l.act l.needs l.arguments) ≡ least g.R.Rank.order l.fn.best (arguments_wrongs (g.K.Known.known l.known) l.act l.fn.needs l.fn.arguments)

abbrev pub decreases-loop-need : goal.decreases-loop-need
decreases-loop-need g l = length l.arguments
