use Rattle.std.proofs.Common.{◌≡◌, ◌++◌, drop}
use Rattle.mh_model.specs.Lifecycle.{members_halted}
use Rattle.mh_work.specs.Batches.{written}
use Rattle.mh_work.proofs.lifecycle.push_members_halted.Given as goal

abbrev pub invariant-loop-member : goal.invariant-loop-member
invariant-loop-member l =
    written l.batches.items ++ members_halted (drop l.member-index l.members) ≡ written l.initial.batches.items ++ members_halted l.members
