-- What the meter of one key comes to: whether it was found before, or is one of those that the price counts.
use Rattle.std.specs.Prelude.{◌≡◌, Bool, true, false, ◌||◌, List, [], ◌∷◌, ◌++◌, refl}
use Rattle.std.specs.List.{list_any}
use Rattle.std.proofs.Common.{ap, ◌∙◌}
use Rattle.mh_laws.specs.Price.{Price, Nothing, One, Node, Plus, Most, counted_in}
use Rattle.mh_prices.specs.Meter.{onto, raise}
use Rattle.mh_prices.specs.Meters.{finding}

record FoundIn {K : Type 0} (is : K → Bool) (p : Price K) : Type 0 where
  sum : (b : Bool) → onto (finding is) p b ≡ (b || list_any is (counted_in p))
  largest : (b : Bool) → (raise (finding is) p (record {}, b)).1 ≡ (b || list_any is (counted_in p))

or_none : (b : Bool) → b ≡ (b || false)
or_none true = refl
or_none false = refl

or_one : (b c : Bool) → (b || c) ≡ (b || (c || false))
or_one true c = refl
or_one false c = or_none c

or_any : {K : Type 0} (is : K → Bool) (s t : List K) (b : Bool) → ((b || list_any is s) || list_any is t) ≡ (b || list_any is (s ++ t))
or_any is s t true = refl
or_any is [] t false = refl
or_any is (x ∷ s) t false = by (is x) (or_any is s t false)
  where
    by : (c : Bool) → ((false || list_any is s) || list_any is t) ≡ (false || list_any is (s ++ t)) → ((c || list_any is s) || list_any is t) ≡ (c || list_any is (s ++ t))
    by true h = refl
    by false h = h

found_in : {K : Type 0} (is : K → Bool) (p : Price K) → FoundIn is p
found_in is Nothing = record { sum = or_none; largest = or_none }
found_in is One = record { sum = or_none; largest = or_none }
found_in is (Node k) = record { sum = λ b. or_one b (is k); largest = λ b. or_one b (is k) }
found_in is (Plus p q) = plus (found_in is p) (found_in is q)
  where
    plus : FoundIn is p → FoundIn is q → FoundIn is (Plus p q)
    plus h k = let sums : ((b : Bool) → onto (finding is) (Plus p q) b ≡ (b || list_any is (counted_in (Plus p q)))) = λ b. ap (onto (finding is) q) (h.sum b) ∙ k.sum (b || list_any is (counted_in p)) ∙ or_any is (counted_in p) (counted_in q) b in
        record { sum = sums; largest = sums }
found_in is (Most p q) = most (found_in is p) (found_in is q)
  where
    most : FoundIn is p → FoundIn is q → FoundIn is (Most p q)
    most h k = let sums : ((b : Bool) → (raise (finding is) (Most p q) (record {}, b)).1 ≡ (b || list_any is (counted_in (Most p q)))) = λ b. ap (λ c. (raise (finding is) q (record {}, c)).1) (h.sum b) ∙ k.largest (b || list_any is (counted_in p)) ∙ or_any is (counted_in p) (counted_in q) b in
        record { sum = sums; largest = sums }

-- added to what was found before
pub found_onto : {K : Type 0} (is : K → Bool) (p : Price K) (b : Bool) → onto (finding is) p b ≡ (b || list_any is (counted_in p))
found_onto is p b = (found_in is p).sum b

pub found_from_nothing : {K : Type 0} (is : K → Bool) (p : Price K) → onto (finding is) p false ≡ list_any is (counted_in p)
found_from_nothing is p = found_onto is p false
