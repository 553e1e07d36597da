-- The largest over a set that is not empty, gone through with a cursor.
use Rattle.std.specs.Prelude.{◌≡◌, List, ◌∷◌}
use Rattle.std.proofs.Common.{ap, ◌∙◌, sym}
use Rattle.mh_laws.specs.Price.{Price, most_price}
use Rattle.mh_prices.specs.Meter.{Meter, onto, raise}

pub most_through : {K S M X : Type 0} (m : Meter K S M) (f : X → Price K) (set from : List X) (x : X) (xs : List X) (s started behind last : S) (put rest : M) → from ≡ set → from ≡ x ∷ xs
    → (put, started) ≡ m.aside s → (rest, behind) ≡ raise m (most_price f from) (put, started) → last ≡ m.close (rest, behind) → last ≡ onto m (most_price f set) s
most_through {K} {S} {M} {X} m f set from x xs s started behind last put rest begins there aside more closed =
    closed ∙ ap m.close (more ∙ (λ i. raise m (most_price f (there i)) (aside i)))
    ∙ ap (λ (ys : List X). onto m (most_price f ys) s) (sym there ∙ begins)
