use Rattle.mh_never.proofs.NeverLemmas.{never_others}
use Rattle.mh_never.proofs.law.never_others.Goals as goal

pub returns : goal.returns
returns c = never_others
