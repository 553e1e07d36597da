use Rattle.std.proofs.Common.{◌≡◌, ℕ, ◌<◌, false}
use Rattle.mh_look.specs.Frames.{differs_at}
use Rattle.mh_look.proofs.comparison.difference.first_difference.Given as goal

abbrev pub invariant-loop-at : goal.invariant-loop-at
invariant-loop-at l = (c : ℕ) → c < l.at → differs_at l.one l.other c ≡ false
