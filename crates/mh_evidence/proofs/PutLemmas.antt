-- Prices read part by part: what they tell of an effect.
use Rattle.std.specs.Prelude.{◌≡◌, Bool, true, false, ◌&&◌, ◌||◌, List, [], ◌∷◌, refl}
use Rattle.std.specs.List.{list_any}
use Rattle.std.proofs.Common.{ap, ◌∙◌}
use Rattle.std.proofs.Math.Bool.{or-false}
use Rattle.std.proofs.lemmas.List.Folds.{list_any-append}
use Rattle.mh_laws.specs.Costs.{Effect}
use Rattle.mh_laws.specs.Price.{Price, Nothing, One, Node, Plus, Most, sum_price, most_price, if_price, counted_in}
use Rattle.mh_layers.specs.Arrows.{counts, same_effect}
use Rattle.mh_prices.specs.Meter.{onto}
use Rattle.mh_prices.specs.Meters.{finding}
use Rattle.mh_prices.proofs.FoundLemmas.{found_onto}
use Rattle.mh_evidence.specs.Putting.{tells}

-- they tell of what they count
pub counts_tells : (y : Effect) (p : Price Effect) → counts y p ≡ tells y p
counts_tells y Nothing = refl
counts_tells y One = refl
counts_tells y (Node k) = or-false (same_effect y k)
counts_tells y (Plus p q) =
    list_any-append (same_effect y) (counted_in p) (counted_in q) ∙ (λ i. counts_tells y p i || counts_tells y q i)
counts_tells y (Most p q) =
    list_any-append (same_effect y) (counted_in p) (counted_in q) ∙ (λ i. counts_tells y p i || counts_tells y q i)

-- added to what was found so far
pub found_told : (y : Effect) (p : Price Effect) (b : Bool) → onto (finding (same_effect y)) p b ≡ (b || tells y p)
found_told y p b = found_onto (same_effect y) p b ∙ ap (λ (c : Bool). b || c) (counts_tells y p)

pub tells_sum : {X : Type 0} (y : Effect) (f : X → Price Effect) (xs : List X) → tells y (sum_price f xs) ≡ list_any (λ x. tells y (f x)) xs
tells_sum y f [] = refl
tells_sum y f (x ∷ xs) = ap (λ (b : Bool). tells y (f x) || b) (tells_sum y f xs)

pub tells_most : {X : Type 0} (y : Effect) (f : X → Price Effect) (xs : List X) → tells y (most_price f xs) ≡ list_any (λ x. tells y (f x)) xs
tells_most y f [] = refl
tells_most y f (x ∷ xs) = ap (λ (b : Bool). tells y (f x) || b) (tells_most y f xs)

pub tells_if : (y : Effect) (b : Bool) (p : Price Effect) → tells y (if_price b p) ≡ (b && tells y p)
tells_if y true p = refl
tells_if y false p = refl
