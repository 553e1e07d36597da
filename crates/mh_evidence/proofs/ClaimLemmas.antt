-- What is claimed, among several things that are wrong.
use Rattle.std.specs.Prelude.{◌≡◌, false, ◌||◌, List, [], ◌++◌, refl}
use Rattle.std.specs.List.{flat_map, list_any}
use Rattle.std.proofs.Common.{◌∙◌}
use Rattle.std.proofs.Math.Bool.{or-false}
use Rattle.mh_model.specs.Faults.{Wrong}
use Rattle.mh_verify.specs.Evidence.{is_claimed}
use Rattle.mh_evidence.specs.Cases.{Case, claims}
use Rattle.mh_evidence.proofs.AnyLemmas.{any_in_two, any_joined}

pub claims_append : (c : Case) (xs ys : List Wrong) → claims c (xs ++ ys) ≡ (claims c xs || claims c ys)
unfolding claims
claims_append c xs ys = any_in_two (is_claimed c.claim) xs ys

-- where one reference is granted, nothing stands behind what is wrong with it
pub claims_one : (c : Case) (xs : List Wrong) → claims c (xs ++ []) ≡ claims c xs
unfolding claims
claims_one c xs = any_in_two (is_claimed c.claim) xs [] ∙ or-false (list_any (is_claimed c.claim) xs)

pub claims_none : (c : Case) → claims c [] ≡ false
unfolding claims
claims_none c = refl

pub claims_flat : {X : Type 0} (c : Case) (f : X → List Wrong) (xs : List X) → claims c (flat_map f xs) ≡ list_any (λ x. claims c (f x)) xs
unfolding claims
claims_flat c f xs = any_joined (is_claimed c.claim) f xs
