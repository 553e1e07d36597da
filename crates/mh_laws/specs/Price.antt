-- Prices: what a thing costs, as far as it can be said before the costs of effects are known. A price is nothing, one
-- step, what a node costs, a sum, or the larger of two.
use Rattle.std.specs.Prelude.{ℕ, ◌+◌, Bool, true, false, List, [], ◌∷◌, ◌++◌, max}

pub data Price (K : Type 0) : Type 0 where
  Nothing : Price K
  One : Price K
  Node : K → Price K
  Plus : Price K → Price K → Price K
  Most : Price K → Price K → Price K

abbrev pub sum_price : {K X : Type 0} → (X → Price K) → List X → Price K
sum_price f [] = Nothing
sum_price f (x ∷ xs) = Plus (f x) (sum_price f xs)

abbrev pub most_price : {K X : Type 0} → (X → Price K) → List X → Price K
most_price f [] = Nothing
most_price f (x ∷ xs) = Most (f x) (most_price f xs)

abbrev pub if_price : {K : Type 0} → Bool → Price K → Price K
if_price true p = p
if_price false p = Nothing

-- what is made of prices
pub record Algebra {ℓ} (K : Type 0) (X : Type ℓ) : Type ℓ where
  pub nothing : X
  pub one : X
  pub node : K → X
  pub plus : X → X → X
  pub most : X → X → X

abbrev pub fold {ℓ} : {K : Type 0} {X : Type ℓ} → Algebra K X → Price K → X
fold a Nothing = a.nothing
fold a One = a.one
fold a (Node k) = a.node k
fold a (Plus p q) = a.plus (fold a p) (fold a q)
fold a (Most p q) = a.most (fold a p) (fold a q)

-- what a price comes to, where nodes cost so much
abbrev pub worth : {K : Type 0} → (K → ℕ) → Price K → ℕ
worth f p = fold (record { nothing = 0; one = 1; node = f; plus = λ a b. a + b; most = max }) p

-- the nodes that a price counts
abbrev pub counted_in : {K : Type 0} → Price K → List K
counted_in p = fold (record { nothing = []; one = []; node = λ k. k ∷ []; plus = λ a b. a ++ b; most = λ a b. a ++ b }) p

-- this holds of each node that a price counts
abbrev pub Nodes : {K : Type 0} → (K → Type 0) → Price K → Type 0
Nodes P p = fold (record { nothing = Unit {0}; one = Unit {0}; node = P; plus = λ a b. a × b; most = λ a b. a × b }) p
