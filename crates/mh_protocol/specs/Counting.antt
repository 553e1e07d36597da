-- Places that are counted one from another.
use Rattle.std.specs.Prelude.{ℕ, ◌+◌, ◌-◌, ◌^◌, ◌==◌, min, if◌then◌else◌, List}
use Rattle.mh_protocol.specs.declared.edit.Range.{Range}
use Rattle.mh_protocol.specs.declared.position.Unit.{Unit}
use Rattle.mh_protocol.specs.declared.position.Position.{Position}
use Rattle.mh_protocol.specs.Positions.{position_in}

-- a place that is counted from another
abbrev pub onto : Position → Position → Position
onto p q =
    if q.line == 0 then record { line = p.line; character = p.character + q.character }
    else record { line = p.line + q.line; character = q.character }

-- the range of so many bytes behind so many others
abbrev pub range_in : Unit → ℕ → ℕ → List ℕ → Range
range_in e start length bs = record { start = position_in e start bs; end = position_in e (min (start + length) (2 ^ 64 - 1)) bs }
