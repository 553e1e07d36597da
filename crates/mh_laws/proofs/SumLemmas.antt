-- A list in which nothing stands more often than in another costs no more.
use Rattle.std.specs.Prelude.{◌+◌, ◌∷◌, ◌≡◌, ◌≤◌, Bool, List, [], false, true, ℕ}
use Rattle.std.proofs.Common.{◌∙◌, ap, arith, refl, sym}
use Rattle.mh_base.specs.declared.obj_ref.ObjRef.{ObjRef}
use Rattle.mh_model.specs.Reference.{same_ref}
use Rattle.mh_model.proofs.ServiceLemmas.{same_ref-same}
use Rattle.mh_laws.specs.Costs.{Costing, Effect}
use Rattle.mh_laws.specs.Price.{Price, sum_price, worth}
use Rattle.mh_laws.specs.Ways.{count_of, once}
use Rattle.mh_laws.proofs.SetLemmas.{same_itself}

-- how often something stands in a list
pub record IsCount {X : Type 0} (same : X → X → Bool) (count : X → List X → ℕ) : Type 0 where
  pub none : (q : X) → count q [] ≡ 0
  pub more : (q y : X) (ys : List X) → count q (y ∷ ys) ≡ once (same q y) + count q ys
  pub itself : (x : X) → same x x ≡ true
  pub alike : (x y : X) → same x y ≡ true → x ≡ y

record Without {X : Type 0} (same : X → X → Bool) (count : X → List X → ℕ) (f : Costing) (g : X → Price Effect) (x : X) (ys : List X) : Type 0 where
  left : List X
  counts : (q : X) → count q ys ≡ once (same q x) + count q left
  costs : worth f (sum_price g ys) ≡ worth f (g x) + worth f (sum_price g left)

taken_out : {X : Type 0} (same : X → X → Bool) (count : X → List X → ℕ) → IsCount same count → (f : Costing) (g : X → Price Effect) (x : X) (ys : List X) → 1 ≤ count x ys → Without same count f g x ys
taken_out same count is f g x [] h = let none = is.none x in absurd (omega (arith, h, none))
taken_out {X} same count is f g x (y ∷ ys) h = by (same x y) refl (λ k. taken_out same count is f g x ys k)
  where
    by : (b : Bool) → same x y ≡ b → (1 ≤ count x ys → Without same count f g x ys) → Without same count f g x (y ∷ ys)
    by true e further =
        let one : x ≡ y = is.alike x y e in
        record {
          left = ys;
          counts = λ q. is.more q y ys ∙ ap (λ (z : X). once (same q z) + count q ys) (sym one);
          costs = ap (λ (z : X). worth f (g z) + worth f (sum_price g ys)) (sym one);
        }
    by false e further =
        let here = is.more x y ys in
        let none : once (same x y) ≡ 0 = ap once e in
        let more = further (omega (arith, h, here, none)) in
        record {
          left = y ∷ more.left;
          counts = λ q. let k = more.counts q in let m = is.more q y ys in let n = is.more q y more.left in omega (arith, k, m, n);
          costs = let k = more.costs in omega (arith, k);
        }

pub sum_counted : {X : Type 0} (same : X → X → Bool) (count : X → List X → ℕ) → IsCount same count → (f : Costing) (g : X → Price Effect) (xs ys : List X) → ((q : X) → count q xs ≤ count q ys) → worth f (sum_price g xs) ≤ worth f (sum_price g ys)
sum_counted same count is f g [] ys h = omega arith
sum_counted same count is f g (x ∷ xs) ys h =
    let own = h x in
    let here = is.more x x xs in
    let one : once (same x x) ≡ 1 = ap once (is.itself x) in
    let out = taken_out same count is f g x ys (omega (arith, own, here, one)) in
    let rest = sum_counted same count is f g xs out.left (λ q. let a = h q in let b = out.counts q in let m = is.more q x xs in omega (arith, a, b, m)) in
    let whole = out.costs in
    omega (arith, rest, whole)

count_refs : IsCount same_ref count_of
count_refs = record { none = λ q. refl; more = λ q y ys. refl; itself = same_itself; alike = same_ref-same }

pub sum_within : (f : Costing) (g : ObjRef → Price Effect) (xs ys : List ObjRef) → ((q : ObjRef) → count_of q xs ≤ count_of q ys) → worth f (sum_price g xs) ≤ worth f (sum_price g ys)
sum_within f g xs ys h = sum_counted same_ref count_of count_refs f g xs ys h
