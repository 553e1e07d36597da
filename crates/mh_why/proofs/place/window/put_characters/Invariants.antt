use Rattle.std.proofs.Common.{◌≡◌, ◌++◌, drop}
use Rattle.std.specs.List.{flat_map}
use Rattle.mh_told.specs.Printing.{character}
use Rattle.mh_why.proofs.place.window.put_characters.Given as goal

abbrev pub invariant-loop-at : goal.invariant-loop-at
invariant-loop-at l = l.text ++ flat_map character (drop l.at-index l.characters) ≡ l.initial.text ++ flat_map character l.characters
