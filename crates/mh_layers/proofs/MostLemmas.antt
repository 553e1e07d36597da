-- The largest of several prices, where there is one.
use Rattle.std.specs.Prelude.{◌≡◌, ◌==◌, true, false, List, [], ◌∷◌, length, refl}
use Rattle.std.proofs.Common.{arith}
use Rattle.std.proofs.lemmas.Bool.Decides.{Decides-eqb}
use Rattle.mh_laws.specs.Price.{Price, most_price}
use Rattle.mh_prices.specs.Meter.{Meter, onto, raise}

pub most_listed : {K S M X : Type 0} (m : Meter K S M) (f : X → Price K) (xs : List X) (s : S) → (length xs == 0) ≡ false
    → m.close (raise m (most_price f xs) (m.aside s)) ≡ onto m (most_price f xs) s
most_listed m f [] s e = absurd cc
most_listed m f (x ∷ xs) s e = refl

pub most_none : {K S M X : Type 0} (m : Meter K S M) (f : X → Price K) (xs : List X) (s : S) → (length xs == 0) ≡ true → s ≡ onto m (most_price f xs) s
most_none m f [] s e = refl
most_none m f (x ∷ xs) s e = let no : length (x ∷ xs) ≡ 0 = (Decides-eqb (length (x ∷ xs)) 0).0 e in absurd (omega (arith, no))
