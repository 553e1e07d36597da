use Rattle.mh_trace.proofs.RunLemmas.{all_until_run}
use Rattle.mh_trace.proofs.run.traces_stand_in_runs.Goals as goal

pub returns : goal.returns
returns c = all_until_run
