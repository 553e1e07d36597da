-- A place behind the end is the end.
use Rattle.std.specs.Prelude.{◌≡◌, ℕ, List, length, min, take}
use Rattle.std.proofs.Common.{ap, arith}
use Rattle.std.proofs.lemmas.List.{take_min}
use Rattle.mh_places.specs.Places.{place_behind}
use Rattle.mh_places.specs.Spans.{point_at}

pub within : (bs : List ℕ) (n : ℕ) → point_at bs (min n (length bs)) ≡ point_at bs n
unfolding point_at
within bs n =
    let byte : min (min n (length bs)) (length bs) ≡ min n (length bs) = omega arith in
    let place = ap place_behind (take_min n bs) in
    λ i. record { byte = byte i; line = (place i).line; column = (place i).column }
