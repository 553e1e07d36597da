use Rattle.std.proofs.Common.{rules}
use Rattle.mh_trace.proofs.PlaceLemmas.{places_of_items}
use Rattle.mh_trace.proofs.sites.called.Goals as goal

pub returns : goal.returns
returns c = search (rules, places_of_items)
