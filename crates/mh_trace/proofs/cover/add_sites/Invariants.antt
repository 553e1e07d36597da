use Rattle.std.proofs.Common.{◌≡◌, drop}
use Rattle.mh_trace.specs.Cover.{add_sites}
use Rattle.mh_trace.proofs.cover.add_sites.Given as goal

abbrev pub invariant-loop-site : goal.invariant-loop-site
invariant-loop-site l = add_sites l.sites.keys (drop l.site-index l.more) ≡ add_sites l.initial.sites.keys l.more
