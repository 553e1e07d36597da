use Rattle.std.proofs.Common.{refl}
use Rattle.mh_why.proofs.StopLemmas.{start_stop}
use Rattle.mh_why.proofs.place.line.line_start.Goals as goal

pub returns-clause-is : goal.returns-clause-is
returns-clause-is c = λ line. start_stop line _ refl refl
