use Rattle.std.proofs.Common.{◌≡◌, drop, map}
use Rattle.mh_service.specs.Refusals.{has_double}
use Rattle.mh_service.proofs.Doubles.{seen_double}
use Rattle.mh_service.proofs.refusing.has_double_number.Given as goal

abbrev pub invariant-loop-ingredient : goal.invariant-loop-ingredient
invariant-loop-ingredient l = seen_double l.seen.keys (map (λ i. i.number) (drop l.ingredient-index l.ingredients)) ≡ has_double (map (λ i. i.number) l.ingredients)
