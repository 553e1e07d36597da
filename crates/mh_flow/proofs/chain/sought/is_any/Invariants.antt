use Rattle.std.proofs.Common.{◌≡◌, drop}
use Rattle.std.specs.List.{list_any}
use Rattle.mh_flow.specs.Steps.{is_one_of}
use Rattle.mh_flow.proofs.chain.sought.is_any.Given as goal

abbrev pub invariant-loop-reference : goal.invariant-loop-reference
invariant-loop-reference l = list_any (is_one_of l.sought.keys) (drop l.reference-index l.references) ≡ list_any (is_one_of l.sought.keys) l.references
