use Rattle.std.proofs.Common.{◌≡◌, ◌++◌, drop}
use Rattle.mh_trace.specs.Words.{shown_octets}
use Rattle.mh_trace.proofs.words.put_shown.Given as goal

abbrev pub invariant-loop-octet : goal.invariant-loop-octet
invariant-loop-octet l = l.text ++ shown_octets (drop l.octet-index l.octets) ≡ l.initial.text ++ shown_octets l.octets
