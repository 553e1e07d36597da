use Rattle.std.proofs.Common.{◌≡◌, ◌+◌, ◌-◌, ◌≤◌, length, max}
use Rattle.std.specs.Io.KnownBytes.{Consumes}
use Rattle.mh_folder.specs.Source.{most_read}
use Rattle.mh_folder.proofs.source.bytes_of.Given as goal

abbrev pub invariant-loop-piece : goal.invariant-loop-piece
invariant-loop-piece g l =
    let before = g.S.Source.tally l.initial.source in
    let now = g.S.Source.tally l.source in
    (length l.bytes.items ≤ most_read) × (length l.piece ≡ 4096)
    × (Consumes (g.S.Source.left l.initial.source) (g.S.Source.left l.source) l.bytes.items)
    × (now.given ≡ before.given + length l.bytes.items)
    × (now.reads ≤ before.reads + length l.bytes.items)
    × (now.asked ≤ max before.asked (before.given + most_read))
    × (now.faults ≡ before.faults)

abbrev pub decreases-loop-piece : goal.decreases-loop-piece
decreases-loop-piece g l = most_read - length l.bytes.items
