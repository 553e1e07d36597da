use Rattle.mh_live.proofs.ReplayLemmas.{all_replayed}
use Rattle.mh_live.proofs.record.records_are_scripts.Goals as goal

pub returns : goal.returns
returns c = all_replayed
