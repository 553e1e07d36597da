use Rattle.std.proofs.Common.{rules}
use Rattle.std.proofs.Math.Facts.{to_z-of_z}
use Rattle.mh_model.specs.Drawn.{gone}
use Rattle.mh_display.proofs.stroke.gone.Goals as goal

pub returns-then-steps-eq0 : goal.returns-then-steps-eq0
unfolding gone
returns-then-steps-eq0 c = search rules

pub returns : goal.returns
unfolding gone
returns c = search (rules, to_z-of_z)
