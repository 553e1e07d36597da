use Rattle.std.proofs.Common.{rules}
use Rattle.mh_trace.proofs.PlaceLemmas.{fewer}
use Rattle.mh_trace.proofs.cover.whole_count.Goals as goal

pub returns-clause-within : goal.returns-clause-within
returns-clause-within c = search (rules, fewer)
