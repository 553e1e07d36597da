use Rattle.std.proofs.Common.{◌≡◌, ◌-◌, length}
use Rattle.mh_why.specs.Meant.{mention, mention_by}
use Rattle.mh_why.proofs.explanation.meant.mention.Given as goal

abbrev pub invariant-loop : goal.invariant-loop
invariant-loop l = mention_by l.number (length l.bytes - l.counter) l.depth l.left ≡ mention l.fn.number l.fn.bytes
