use Rattle.std.proofs.Common.{rules}
use Rattle.mh_trace.proofs.PlaceLemmas.{heard_so}
use Rattle.mh_trace.proofs.ears.hearing.hears.Goals as goal

pub returns : goal.returns
returns c = search (rules, heard_so)
