use Rattle.std.proofs.Common.{◌≡◌, ◌++◌}
use Rattle.std.specs.List.{flat_map}
use Rattle.mh_told.specs.Printing.{character}
use Rattle.mh_terminal.specs.Frames.{harmless, plain}
use Rattle.mh_terminal.proofs.frame.put_plain.Given as goal

abbrev pub invariant-loop-character : goal.invariant-loop-character
invariant-loop-character l = l.text ++ flat_map (λ c. character (harmless c)) l.character-iterator ≡ l.initial.text ++ plain l.fn.bytes
