-- The first of two lists is the first of the second and of the first of the first.
use Rattle.std.proofs.Common.{◌≡◌, List, [], ◌∷◌, ◌++◌, map, Option, Some, refl, sym, ap, ◌∙◌}
use Rattle.std.specs.List.{flat_map}
use Rattle.std.proofs.lemmas.List.{map-append}
use Rattle.std.proofs.lemmas.List.Concat.{flat_map-append}
use Rattle.mh_base.specs.declared.obj_ref.ObjRef.{ObjRef}
use Rattle.mh_model.specs.declared.config.Config.{Config}
use Rattle.mh_model.specs.Faults.{Wrong}
use Rattle.mh_verify.specs.declared.refusal.Found.{Found}
use Rattle.mh_verify.specs.Least.{least_of, lesser}
use Rattle.mh_verify.specs.Refusals.{found_of_part}

pub least_append : (b : Option Found) (xs ys : List Found) → least_of b (xs ++ ys) ≡ least_of (least_of b xs) ys
least_append b [] ys = refl
least_append b (x ∷ xs) ys = least_append (Some (lesser b x)) xs ys

-- lists joined in two parts
pub least_joined : {X : Type 0} (f : X → List Found) (b : Option Found) (xs ys : List X) → least_of (least_of b (flat_map f xs)) (flat_map f ys) ≡ least_of b (flat_map f (xs ++ ys))
least_joined f b xs ys =
    sym (least_append b (flat_map f xs) (flat_map f ys)) ∙ ap (least_of b) (sym (flat_map-append f xs ys))

-- what is wrong with one in front of others
pub least_wrongs : {X : Type 0} (at : X → List Wrong) (c : Config) (key : ObjRef) (b : Option Found) (x : X) (xs : List X) → least_of b (map (found_of_part c key) (flat_map at (x ∷ xs))) ≡ least_of (least_of b (map (found_of_part c key) (at x))) (map (found_of_part c key) (flat_map at xs))
least_wrongs at c key b x xs =
    ap (least_of b) (map-append (found_of_part c key) (at x) (flat_map at xs))
    ∙ least_append b (map (found_of_part c key) (at x)) (map (found_of_part c key) (flat_map at xs))
