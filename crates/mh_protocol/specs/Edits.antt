-- A text that is changed.
use Rattle.std.specs.Prelude.{ℕ, List, ◌++◌, drop, max, take}
use Rattle.mh_protocol.specs.declared.position.Unit.{Unit}
use Rattle.mh_protocol.specs.declared.edit.Range.{Range}
use Rattle.mh_protocol.specs.Positions.{offset_in}

-- the text with another one between these numbers of bytes
abbrev pub replaced : ℕ → ℕ → List ℕ → List ℕ → List ℕ
replaced start end new bs = take start bs ++ new ++ drop (max start end) bs

unfoldable pub edited : Unit → Range → List ℕ → List ℕ → List ℕ
edited e r new bs = replaced (offset_in e r.start bs) (offset_in e r.end bs) new bs
