-- Which rows of two pictures are the same.
use Rattle.std.specs.Prelude.{ℕ, ◌+◌, ◌*◌, Bool, ◌&&◌, List, slice_range}
use Rattle.std.specs.Str.{bytes_eq}
use Rattle.mh_model.specs.Planes.{Planes}

-- the 60 numbers from a place on are the same in two planes
abbrev pub same_stretch : List ℕ → List ℕ → ℕ → Bool
same_stretch xs ys start = bytes_eq (slice_range xs start (start + 60)) (slice_range ys start (start + 60))

-- the cells of a row are the same in two pictures
abbrev pub same_row : Planes → Planes → ℕ → Bool
same_row p q row = same_stretch p.scalars q.scalars (60 * row) && same_stretch p.fores q.fores (60 * row) && same_stretch p.backs q.backs (60 * row)
