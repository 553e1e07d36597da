use Rattle.std.proofs.Common.{◌≡◌}
use Rattle.mh_flow.specs.Index.{indexed, with_groups}
use Rattle.mh_flow.proofs.index.index_of.Given as goal

abbrev pub invariant-loop-parts : goal.invariant-loop-parts
invariant-loop-parts l = with_groups l.index.entries l.parts-iterator ≡ indexed l.service
