use Rattle.std.specs.Prelude.{drop}
use Rattle.std.proofs.Common.{◌≡◌}
use Rattle.mh_evidence.specs.Spots.{leads_on_there}
use Rattle.mh_evidence.proofs.chains.leads_on.Given as goal

abbrev pub invariant-loop-link : goal.invariant-loop-link
invariant-loop-link l = leads_on_there l.service l.from (drop l.link-index l.links) ≡ leads_on_there l.service l.fn.from l.links
