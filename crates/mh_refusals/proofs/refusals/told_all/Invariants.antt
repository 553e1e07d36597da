use Rattle.std.specs.List.{Contains}
use Rattle.mh_flow.specs.Solved.{flow_in}
use Rattle.mh_laws.specs.Each.{Each}
use Rattle.mh_verify.specs.Refusals.{all_refusals}
use Rattle.mh_refusals.proofs.ToldLemmas.{AreToldUpTo}
use Rattle.mh_refusals.proofs.refusals.told_all.Given as goal

abbrev pub invariant-loop-found : goal.invariant-loop-found
invariant-loop-found l =
    AreToldUpTo l.service l.initial.found-iterator.rest.items l.told.items l.found-iterator.rest.items
    × Each (Contains (all_refusals l.service (flow_in l.service l.flow))) l.found-iterator.rest.items
