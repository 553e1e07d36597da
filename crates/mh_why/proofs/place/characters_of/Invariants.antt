use Rattle.std.proofs.Common.{◌≡◌, ◌++◌, map}
use Rattle.bstr.specs.Text.{without_terminator}
use Rattle.bstr.specs.Utf8.{lossy_chars}
use Rattle.mh_why.specs.Places.{spaced}
use Rattle.mh_why.proofs.place.characters_of.Given as goal

abbrev pub invariant-loop-character : goal.invariant-loop-character
invariant-loop-character l = l.characters.items ++ map spaced l.character-iterator ≡ map spaced (lossy_chars (without_terminator l.line))
