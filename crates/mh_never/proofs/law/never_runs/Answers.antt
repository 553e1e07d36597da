use Rattle.mh_never.proofs.RunningLemmas.{never_runs}
use Rattle.mh_never.proofs.law.never_runs.Goals as goal

pub returns : goal.returns
returns c = never_runs
