-- The meters of what is counted: which keys, and whether one of them passes a test.
use Rattle.std.specs.Prelude.{Bool, ◌||◌, List, [], ◌∷◌, ◌++◌}
use Rattle.mh_prices.specs.Meter.{Meter}

-- the keys that a price counts, in their order
abbrev pub listing : {K : Type 0} → Meter K (List K) (record {})
listing = record {
  one = λ s. s;
  node = λ k s. s ++ k ∷ [];
  aside = λ s. (record {}, s);
  next = λ b. b;
  close = λ b. b.1;
}

-- whether it counts one that passes
abbrev pub finding : {K : Type 0} → (K → Bool) → Meter K Bool (record {})
finding is = record {
  one = λ s. s;
  node = λ k s. s || is k;
  aside = λ s. (record {}, s);
  next = λ b. b;
  close = λ b. b.1;
}
