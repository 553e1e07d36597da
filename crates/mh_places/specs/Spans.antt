-- What of a text is meant: so many bytes behind so many others, those that are there.
use Rattle.std.specs.Prelude.{ℕ, ◌+◌, List, length, min}
use Rattle.mh_places.specs.declared.place.Place.{Place}
use Rattle.mh_places.specs.declared.span.Point.{Point}
use Rattle.mh_places.specs.declared.span.Span.{Span}
use Rattle.mh_places.specs.Places.{place_at}

unfoldable pub point_at : List ℕ → ℕ → Point
point_at bs n = record { byte = min n (length bs); line = (place_at bs n).line; column = (place_at bs n).column }

unfoldable pub span_at : List ℕ → ℕ → ℕ → Span
span_at bs start size = record { start = point_at bs start; end = point_at bs (start + size) }

abbrev pub place_of : Span → Place
place_of s = record { line = s.start.line; column = s.start.column }
