use Rattle.std.proofs.Common.{◌≡◌, ◌+◌, drop, length}
use Rattle.mh_layers.proofs.numbering.push_acts.Given as goal

abbrev pub invariant-loop-act : goal.invariant-loop-act
invariant-loop-act l = length l.acts.items + length (drop l.act-index l.more) ≡ length l.initial.acts.items + length l.more
