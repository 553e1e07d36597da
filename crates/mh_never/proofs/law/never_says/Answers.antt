use Rattle.mh_never.proofs.SaidLemmas.{never_says}
use Rattle.mh_never.proofs.law.never_says.Goals as goal

pub returns : goal.returns
returns c = never_says
