use Rattle.std.proofs.Common.{◌≡◌, drop}
use Rattle.mh_trace.specs.Cover.{add_names}
use Rattle.mh_trace.proofs.cover.add_names.Given as goal

abbrev pub invariant-loop-name : goal.invariant-loop-name
invariant-loop-name l = add_names l.names.keys (drop l.name-index l.more) ≡ add_names l.initial.names.keys l.more
