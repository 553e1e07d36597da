use Rattle.std.proofs.Common.{◌≡◌, ◌++◌, length}
use Rattle.mh_why.specs.Octets.{hex_text}
use Rattle.mh_why.proofs.place.octets.put_hex_text.Given as goal

abbrev pub invariant-loop-left : goal.invariant-loop-left
invariant-loop-left l = l.text ++ hex_text l.left ≡ l.fn.text ++ hex_text l.bytes

abbrev pub decreases-loop-left : goal.decreases-loop-left
decreases-loop-left l = length l.left
