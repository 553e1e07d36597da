use Rattle.std.proofs.Common.{◌≡◌, ◌++◌, drop}
use Rattle.mh_why.specs.Sources.{shown_named}
use Rattle.mh_why.proofs.explanation.place.named.put_all_named.Given as goal

abbrev pub invariant-loop-source : goal.invariant-loop-source
invariant-loop-source l = l.text ++ shown_named l.sought (drop l.source-index l.sources) ≡ l.initial.text ++ shown_named l.sought l.sources
