use Rattle.std.proofs.Common.{◌≡◌, map}
use Rattle.mh_flow.specs.Index.{held_index, holders, with_groups}
use Rattle.mh_flow.proofs.index.holders_of.Given as goal

abbrev pub invariant-loop-parts : goal.invariant-loop-parts
invariant-loop-parts l = with_groups l.index.entries (map holders l.parts-iterator) ≡ held_index l.service
