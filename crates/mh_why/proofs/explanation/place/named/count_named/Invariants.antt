use Rattle.std.proofs.Common.{◌≡◌, ◌+◌, drop}
use Rattle.mh_why.specs.Sources.{count_named}
use Rattle.mh_why.proofs.explanation.place.named.count_named.Given as goal

abbrev pub invariant-loop-source : goal.invariant-loop-source
invariant-loop-source l = l.count + count_named l.sought (drop l.source-index l.sources) ≡ count_named l.sought l.sources
