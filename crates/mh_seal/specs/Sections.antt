-- The parts of a seal's text as a reader has them: from a line to the end.
use Rattle.std.specs.Prelude.{ℕ, Bool, ◌&&◌, List, [], ◌++◌, codes}
use Rattle.hex.specs.Hex.{encode_lower}
use Rattle.mh_seal.specs.declared.seal.Seal.{Seal}
use Rattle.mh_seal.specs.declared.seal.SealedBounds.{SealedBounds}
use Rattle.mh_seal.specs.Octets.{is_digest}
use Rattle.mh_seal.specs.Reading.{are_bounds}
use Rattle.mh_seal.specs.Text.{as_is, bounds_text, group_value, line, lines}

-- from the tags
unfoldable pub closing : List ℕ → List ℕ
closing tags = line (codes "tags ") (encode_lower tags) ++ line (codes "end") []

-- from the bounds

abbrev pub Ending : Type 0
Ending = SealedBounds × List ℕ

abbrev pub is_ending : Ending → Bool
is_ending e = are_bounds e.0 && is_digest e.1

unfoldable pub ending : Ending → List ℕ
ending e = bounds_text e.0 ++ closing e.1

-- from the start
unfoldable pub body : Seal → List ℕ
body s =
    line (codes "start ") s.start ++ (lines (codes "group ") group_value s.groups
    ++ (lines (codes "content ") as_is s.contents ++ ending (s.bounds, s.tags)))
