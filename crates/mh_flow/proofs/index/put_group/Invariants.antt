use Rattle.std.proofs.Common.{◌≡◌, drop}
use Rattle.mh_flow.specs.Index.{with_homes}
use Rattle.mh_flow.proofs.index.put_group.Given as goal

abbrev pub invariant-loop-place : goal.invariant-loop-place
invariant-loop-place l = with_homes l.index.entries l.place (drop l.place l.parts) ≡ with_homes l.initial.index.entries 0 l.parts
