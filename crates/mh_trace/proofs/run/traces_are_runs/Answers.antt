use Rattle.mh_trace.proofs.RunLemmas.{traces_run}
use Rattle.mh_trace.proofs.run.traces_are_runs.Goals as goal

pub returns : goal.returns
returns c = traces_run
