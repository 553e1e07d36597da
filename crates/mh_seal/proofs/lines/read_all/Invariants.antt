use Rattle.std.proofs.Common.{◌≡◌, ◌+◌, ◌≤◌, ◌++◌, length, true}
use Rattle.std.specs.List.{list_all}
use Rattle.mh_seal.specs.Text.{lines}
use Rattle.mh_seal.proofs.lines.read_all.Given as goal

abbrev pub invariant-loop-said : goal.invariant-loop-said
invariant-loop-said g l =
    (list_all g.V.LineValue.is_good l.said ≡ true) × (l.bytes ≡ lines l.word g.V.LineValue.spelling l.said ++ l.rest)
    × (length l.said + length l.rest ≤ length l.bytes)

abbrev pub decreases-loop-said : goal.decreases-loop-said
decreases-loop-said g l = length l.rest
