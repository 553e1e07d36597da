-- A price below another: where effects cost no more it comes to no more, and it counts no others.
use Rattle.std.specs.Prelude.{◌≡◌, ◌≤◌, ℕ, ◌+◌, Bool, true, false, List, [], ◌∷◌, max, refl}
use Rattle.std.proofs.Common.{arith, inl, inr, sym, subst}
use Rattle.std.proofs.Math.Nat.{le-max_left, le-max_right, max-le}
use Rattle.mh_laws.specs.Costs.{Costing, Effect}
use Rattle.mh_laws.specs.Each.{Among}
use Rattle.mh_laws.specs.Price.{Price, Nothing, One, Plus, Most, sum_price, most_price, if_price, worth, counted_in}
use Rattle.mh_laws.proofs.EachLemmas.{among_left, among_right}
use Rattle.mh_laws.proofs.PriceLemmas.{among_most, le_trans, most_at_most, nodes_most, nodes_of, nodes_sum, of_nodes, worth_at_most}
use Rattle.mh_laws.proofs.SumLemmas.{IsCount, sum_counted}
use Rattle.mh_layers.proofs.CheapListLemmas.{Within, both_within, counted_within}

pub record IsBelow (p q : Price Effect) : Type 0 where
  pub costs : (f g : Costing) → ((x : Effect) → f x ≤ g x) → worth f p ≤ worth g q
  pub counts : (y : Effect) → Among (counted_in p) y → Among (counted_in q) y

le_both : (a b c d : ℕ) → a ≤ b → c ≤ d → a + c ≤ b + d
le_both a b c d h k = omega (arith, h, k)

max_both : (a b c d : ℕ) → a ≤ b → c ≤ d → max a c ≤ max b d
max_both a b c d h k = max-le (le_trans a b (max b d) h (le-max_left b d)) (le_trans c d (max b d) k (le-max_right b d))

pub below_itself : (p : Price Effect) → IsBelow p p
below_itself p = record { costs = λ f g less. worth_at_most f g less p; counts = λ y there. there }

pub below_plus : {p q r s : Price Effect} → IsBelow p q → IsBelow r s → IsBelow (Plus p r) (Plus q s)
below_plus {p} {q} {r} {s} h k =
    record {
      costs = λ f g less. le_both (worth f p) (worth g q) (worth f r) (worth g s) (h.costs f g less) (k.costs f g less);
      counts = both_within (counted_in p) (counted_in q) (counted_in r) (counted_in s) h.counts k.counts;
    }

pub below_larger : {p q r s : Price Effect} → IsBelow p q → IsBelow r s → IsBelow (Most p r) (Most q s)
below_larger {p} {q} {r} {s} h k =
    record {
      costs = λ f g less. max_both (worth f p) (worth g q) (worth f r) (worth g s) (h.costs f g less) (k.costs f g less);
      counts = both_within (counted_in p) (counted_in q) (counted_in r) (counted_in s) h.counts k.counts;
    }

-- one step, and then this
pub below_step : {p q : Price Effect} → IsBelow p q → IsBelow (Plus One p) (Plus One q)
below_step h = below_plus (below_itself One) h

pub below_nothing : (q : Price Effect) → IsBelow Nothing q
below_nothing q = record { costs = λ f g less. none (worth g q); counts = λ y there. absurd cc }
  where
    none : (a : ℕ) → 0 ≤ a
    none a = omega arith

-- what is counted under a condition
pub below_if : {p q : Price Effect} (a b : Bool) → (a ≡ true → b ≡ true) → IsBelow p q → IsBelow (if_price a p) (if_price b q)
below_if {p} {q} false b follows h = below_nothing (if_price b q)
below_if true true follows h = h
below_if true false follows h = let never : false ≡ true = follows refl in absurd cc

-- Sums

pub below_sum : {X : Type 0} (g h : X → Price Effect) → ((x : X) → IsBelow (g x) (h x)) → (xs : List X) → IsBelow (sum_price g xs) (sum_price h xs)
below_sum g h each [] = below_itself Nothing
below_sum g h each (x ∷ xs) = below_plus (each x) (below_sum g h each xs)

pub counted_sum : {X : Type 0} (h : X → Price Effect) (xs : List X) (x : X) (y : Effect) → Among xs x → Among (counted_in (h x)) y → Among (counted_in (sum_price h xs)) y
counted_sum h [] x y there own = absurd cc
counted_sum {X} h (z ∷ xs) x y (inl same) own =
    among_left (counted_in (h z)) (counted_in (sum_price h xs)) y (subst (λ (t : X). Among (counted_in (h t)) y) (sym same) own)
counted_sum h (z ∷ xs) x y (inr more) own = among_right (counted_in (h z)) (counted_in (sum_price h xs)) y (counted_sum h xs x y more own)

-- of a list in which nothing stands more often than in the other
pub below_counted : {X : Type 0} (same : X → X → Bool) (count : X → List X → ℕ) → IsCount same count → (g h : X → Price Effect) → ((x : X) → IsBelow (g x) (h x)) → (xs ys : List X) → ((x : X) → count x xs ≤ count x ys) → IsBelow (sum_price g xs) (sum_price h ys)
below_counted same count is g h each xs ys fewer =
    record {
      costs =
          λ f k less.
          le_trans (worth f (sum_price g xs)) (worth k (sum_price h xs)) (worth k (sum_price h ys)) ((below_sum g h each xs).costs f k less)
          (sum_counted same count is k h xs ys fewer);
      counts =
          of_nodes (λ y. Among (counted_in (sum_price h ys)) y) (sum_price g xs)
          (nodes_sum (λ y. Among (counted_in (sum_price h ys)) y) g xs
          (λ x own. nodes_of (λ y. Among (counted_in (sum_price h ys)) y) (g x)
          (λ y counted. counted_sum h ys x y (counted_within same count is xs ys fewer x own) ((each x).counts y counted))));
    }

-- The dearest

pub counted_most : {X : Type 0} (h : X → Price Effect) (xs : List X) (x : X) (y : Effect) → Among xs x → Among (counted_in (h x)) y → Among (counted_in (most_price h xs)) y
counted_most h [] x y there own = absurd cc
counted_most {X} h (z ∷ xs) x y (inl same) own =
    among_left (counted_in (h z)) (counted_in (most_price h xs)) y (subst (λ (t : X). Among (counted_in (h t)) y) (sym same) own)
counted_most h (z ∷ xs) x y (inr more) own = among_right (counted_in (h z)) (counted_in (most_price h xs)) y (counted_most h xs x y more own)

-- of a list that is within the other
pub below_dearest : {X : Type 0} (g h : X → Price Effect) → ((x : X) → IsBelow (g x) (h x)) → (xs ys : List X) → Within xs ys → IsBelow (most_price g xs) (most_price h ys)
below_dearest g h each xs ys within =
    record {
      costs =
          λ f k less.
          most_at_most f g xs (worth k (most_price h ys))
          (λ x own. le_trans (worth f (g x)) (worth k (h x)) (worth k (most_price h ys)) ((each x).costs f k less) (among_most k h ys x (within x own)));
      counts =
          of_nodes (λ y. Among (counted_in (most_price h ys)) y) (most_price g xs)
          (nodes_most (λ y. Among (counted_in (most_price h ys)) y) g xs
          (λ x own. nodes_of (λ y. Among (counted_in (most_price h ys)) y) (g x)
          (λ y counted. counted_most h ys x y (within x own) ((each x).counts y counted))));
    }

-- of the same list
pub below_most : {X : Type 0} (g h : X → Price Effect) → ((x : X) → IsBelow (g x) (h x)) → (xs : List X) → IsBelow (most_price g xs) (most_price h xs)
below_most g h each xs = below_dearest g h each xs xs (λ x own. own)
