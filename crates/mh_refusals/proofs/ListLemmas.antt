-- What is listed of two lists, and what is listed where none is left out.
use Rattle.std.specs.Prelude.{◌≡◌, ◌≤◌, ℕ, zero, suc, List, [], ◌∷◌, ◌++◌, map, take, Some, refl}
use Rattle.std.specs.declared.cmp.Ordering.{Ordering}
use Rattle.std.specs.declared.cmp.Ordering.TheVariants.{Less, Equal, Greater}
use Rattle.std.specs.List.{flat_map}
use Rattle.std.proofs.Common.{◌∙◌, ap, arith, sym}
use Rattle.std.proofs.lemmas.List.{map-append, take-take}
use Rattle.std.proofs.lemmas.List.Concat.{flat_map-append}
use Rattle.mh_base.specs.declared.obj_ref.ObjRef.{ObjRef}
use Rattle.mh_model.specs.declared.config.Config.{Config}
use Rattle.mh_model.specs.Faults.{Wrong}
use Rattle.mh_verify.specs.declared.refusal.Found.{Found}
use Rattle.mh_verify.specs.Least.{lesser}
use Rattle.mh_verify.specs.Order.{by_place}
use Rattle.mh_verify.specs.Refusals.{found_of_part}
use Rattle.mh_refusals.specs.Places.{listed, placed, with_all, with_one}

pub listed_append : (n : ℕ) (ys xs zs : List Found) → listed n ys (xs ++ zs) ≡ listed n (listed n ys xs) zs
listed_append n ys [] zs = refl
listed_append n ys (x ∷ xs) zs = listed_append n (take n (with_one x ys)) xs zs

-- lists joined in two parts
pub listed_joined : {X : Type 0} (f : X → List Found) (n : ℕ) (ys : List Found) (xs zs : List X) → listed n (listed n ys (flat_map f xs)) (flat_map f zs) ≡ listed n ys (flat_map f (xs ++ zs))
listed_joined f n ys xs zs =
    sym (listed_append n ys (flat_map f xs) (flat_map f zs)) ∙ ap (listed n ys) (sym (flat_map-append f xs zs))

-- what is wrong with one in front of others
pub listed_wrongs : {X : Type 0} (at : X → List Wrong) (c : Config) (key : ObjRef) (n : ℕ) (ys : List Found) (x : X) (xs : List X) → listed n ys (map (found_of_part c key) (flat_map at (x ∷ xs))) ≡ listed n (listed n ys (map (found_of_part c key) (at x))) (map (found_of_part c key) (flat_map at xs))
listed_wrongs at c key n ys x xs =
    ap (listed n ys) (map-append (found_of_part c key) (at x) (flat_map at xs))
    ∙ listed_append n ys (map (found_of_part c key) (at x)) (map (found_of_part c key) (flat_map at xs))

-- what is left out is left out for good

take_again : (n : ℕ) (ys : List Found) → take n (take n ys) ≡ take n ys
take_again n ys = take-take n n ys (omega arith)

take_behind : (n : ℕ) (y : Found) (ys : List Found) → take n (y ∷ take n ys) ≡ take n (y ∷ ys)
take_behind zero y ys = refl
take_behind (suc n) y ys = ap (λ (zs : List Found). y ∷ zs) (take-take n (suc n) ys (omega arith))

cut_one : (n : ℕ) (x : Found) (ys : List Found) → take n (with_one x (take n ys)) ≡ take n (with_one x ys)
cut_one zero x ys = refl
cut_one (suc n) x [] = refl
cut_one (suc n) x (y ∷ ys) = by (by_place x.place y.place) (cut_one n x ys)
  where
    by : (o : Ordering) → take n (with_one x (take n ys)) ≡ take n (with_one x ys) → take (suc n) (placed o x y (take n ys) (with_one x (take n ys))) ≡ take (suc n) (placed o x y ys (with_one x ys))
    by Less ih = ap (λ (zs : List Found). x ∷ zs) (take_behind n y ys)
    by Equal ih = ap (λ (zs : List Found). lesser (Some y) x ∷ zs) (take_again n ys)
    by Greater ih = ap (λ (zs : List Found). y ∷ zs) ih

pub listed_is : (n : ℕ) (ys xs : List Found) → listed n (take n ys) xs ≡ take n (with_all ys xs)
listed_is n ys [] = refl
listed_is n ys (x ∷ xs) =
    ap (λ (zs : List Found). listed n zs xs) (cut_one n x ys) ∙ listed_is n (with_one x ys) xs

-- the first so many of all
pub cut : (n : ℕ) (xs : List Found) → listed n [] xs ≡ take n (with_all [] xs)
cut n xs = ap (λ (ys : List Found). listed n ys xs) (sym (none_left n)) ∙ listed_is n [] xs
  where
    none_left : (n : ℕ) → take {A = Found} n [] ≡ []
    none_left zero = refl
    none_left (suc n) = refl
