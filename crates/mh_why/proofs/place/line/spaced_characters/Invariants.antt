use Rattle.std.proofs.Common.{◌≡◌, ◌++◌, drop, map, take}
use Rattle.bstr.specs.Utf8.{lossy_chars}
use Rattle.mh_why.specs.Places.{spaced}
use Rattle.mh_why.proofs.place.line.spaced_characters.Given as goal

abbrev pub invariant-loop-character : goal.invariant-loop-character
invariant-loop-character l =
    l.characters.items ++ take l.left (drop l.before (map spaced l.character-iterator)) ≡ take l.most (drop l.left_out (map spaced (lossy_chars l.fn.bytes)))
