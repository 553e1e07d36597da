use Rattle.std.proofs.Common.{◌≡◌, ◌≤◌, drop}
use Rattle.mh_flow.specs.Index.{holders, with_homes}
use Rattle.mh_flow.proofs.index.put_holders.Given as goal

abbrev pub invariant-loop-place : goal.invariant-loop-place
invariant-loop-place l =
    (with_homes l.index.entries l.count (holders (drop l.place l.parts)) ≡ with_homes l.initial.index.entries 0 (holders l.parts))
    × (l.count ≤ l.place)
