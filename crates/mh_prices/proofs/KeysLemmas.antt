-- What the meter of keys comes to: the keys that the price counts, behind those of before.
use Rattle.std.specs.Prelude.{◌≡◌, List, [], ◌∷◌, ◌++◌, refl}
use Rattle.std.proofs.Common.{ap, ◌∙◌}
use Rattle.mh_laws.specs.Price.{Price, Nothing, One, Node, Plus, Most, counted_in}
use Rattle.mh_prices.specs.Meter.{onto, raise}
use Rattle.mh_prices.specs.Meters.{listing}

record KeysOf {K : Type 0} (p : Price K) : Type 0 where
  sum : (s : List K) → onto listing p s ≡ s ++ counted_in p
  largest : (s : List K) → (raise listing p (record {}, s)).1 ≡ s ++ counted_in p

with_none : {K : Type 0} (s : List K) → s ≡ s ++ []
with_none [] = refl
with_none (x ∷ s) = ap (λ t. x ∷ t) (with_none s)

grouped : {K : Type 0} (s t u : List K) → (s ++ t) ++ u ≡ s ++ (t ++ u)
grouped [] t u = refl
grouped (x ∷ s) t u = ap (λ v. x ∷ v) (grouped s t u)

keys_of : {K : Type 0} (p : Price K) → KeysOf p
keys_of Nothing = record { sum = with_none; largest = with_none }
keys_of One = record { sum = with_none; largest = with_none }
keys_of (Node k) = record { sum = λ s. refl; largest = λ s. refl }
keys_of {K} (Plus p q) = plus (keys_of p) (keys_of q)
  where
    plus : KeysOf p → KeysOf q → KeysOf (Plus p q)
    plus h k = let sums : ((s : List K) → onto listing (Plus p q) s ≡ s ++ counted_in (Plus p q)) = λ s. ap (onto listing q) (h.sum s) ∙ k.sum (s ++ counted_in p) ∙ grouped s (counted_in p) (counted_in q) in
        record { sum = sums; largest = sums }
keys_of {K} (Most p q) = most (keys_of p) (keys_of q)
  where
    most : KeysOf p → KeysOf q → KeysOf (Most p q)
    most h k = let sums : ((s : List K) → (raise listing (Most p q) (record {}, s)).1 ≡ s ++ counted_in (Most p q)) = λ s. ap (λ t. (raise listing q (record {}, t)).1) (h.sum s) ∙ k.largest (s ++ counted_in p) ∙ grouped s (counted_in p) (counted_in q) in
        record { sum = sums; largest = sums }

pub lists_from_nothing : {K : Type 0} (p : Price K) → onto listing p [] ≡ counted_in p
lists_from_nothing p = (keys_of p).sum []
