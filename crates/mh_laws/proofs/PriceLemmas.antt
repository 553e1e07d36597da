-- What prices come to: sums, the largest of several, other costs of the nodes, and what holds of each node that is counted.
use Rattle.std.specs.Prelude.{◌≡◌, ◌≤◌, ℕ, ◌+◌, Bool, true, false, List, [], ◌∷◌, ◌++◌, map, max, refl}
use Rattle.std.proofs.Common.{arith, inl, inr, subst}
use Rattle.std.proofs.Math.Nat.{le-max_left, le-max_right, max-le}
use Rattle.mh_laws.specs.Each.{Each, Among}
use Rattle.mh_laws.specs.Price.{Price, Nothing, One, Node, Plus, Most, sum_price, most_price, if_price, worth, counted_in, Nodes}
use Rattle.mh_laws.proofs.EachLemmas.{each_left, each_right, each_joined, each_among, among_each}

pub le_same : (a : ℕ) → a ≤ a
le_same a = omega arith

pub le_trans : (a b c : ℕ) → a ≤ b → b ≤ c → a ≤ c
le_trans a b c h k = omega (arith, h, k)

le_both : (a b c d : ℕ) → a ≤ b → c ≤ d → a + c ≤ b + d
le_both a b c d h k = omega (arith, h, k)

max_both : (a b c d : ℕ) → a ≤ b → c ≤ d → max a c ≤ max b d
max_both a b c d h k = max-le (le_trans a b (max b d) h (le-max_left b d)) (le_trans c d (max b d) k (le-max_right b d))

-- Other costs

-- where each node that is counted costs no more
pub worth_less : {K : Type 0} (f g : K → ℕ) (p : Price K) → Nodes (λ k. f k ≤ g k) p → worth f p ≤ worth g p
worth_less f g Nothing h = le_same 0
worth_less f g One h = le_same 1
worth_less f g (Node k) h = h
worth_less f g (Plus p q) h = le_both (worth f p) (worth g p) (worth f q) (worth g q) (worth_less f g p h.0) (worth_less f g q h.1)
worth_less f g (Most p q) h = max_both (worth f p) (worth g p) (worth f q) (worth g q) (worth_less f g p h.0) (worth_less f g q h.1)

pub nodes_any : {K : Type 0} (P : K → Type 0) → ((k : K) → P k) → (p : Price K) → Nodes P p
nodes_any P h Nothing = tt
nodes_any P h One = tt
nodes_any P h (Node k) = h k
nodes_any P h (Plus p q) = (nodes_any P h p, nodes_any P h q)
nodes_any P h (Most p q) = (nodes_any P h p, nodes_any P h q)

-- where any node costs no more
pub worth_at_most : {K : Type 0} (f g : K → ℕ) → ((k : K) → f k ≤ g k) → (p : Price K) → worth f p ≤ worth g p
worth_at_most f g less p = worth_less f g p (nodes_any (λ k. f k ≤ g k) less p)

-- where each node that is counted costs the same
pub worth_same : {K : Type 0} (f g : K → ℕ) (p : Price K) → Nodes (λ k. f k ≡ g k) p → worth f p ≡ worth g p
worth_same f g Nothing h = refl
worth_same f g One h = refl
worth_same f g (Node k) h = h
worth_same f g (Plus p q) h = λ i. worth_same f g p h.0 i + worth_same f g q h.1 i
worth_same f g (Most p q) h = λ i. max (worth_same f g p h.0 i) (worth_same f g q h.1 i)

-- Nodes

pub nodes_map : {K : Type 0} (P Q : K → Type 0) → ((k : K) → P k → Q k) → (p : Price K) → Nodes P p → Nodes Q p
nodes_map P Q f Nothing h = tt
nodes_map P Q f One h = tt
nodes_map P Q f (Node k) h = f k h
nodes_map P Q f (Plus p q) h = (nodes_map P Q f p h.0, nodes_map P Q f q h.1)
nodes_map P Q f (Most p q) h = (nodes_map P Q f p h.0, nodes_map P Q f q h.1)

pub nodes_both : {K : Type 0} (P Q : K → Type 0) (p : Price K) → Nodes P p → Nodes Q p → Nodes (λ k. P k × Q k) p
nodes_both P Q Nothing h k = tt
nodes_both P Q One h k = tt
nodes_both P Q (Node x) h k = (h, k)
nodes_both P Q (Plus p q) h k = (nodes_both P Q p h.0 k.0, nodes_both P Q q h.1 k.1)
nodes_both P Q (Most p q) h k = (nodes_both P Q p h.0 k.0, nodes_both P Q q h.1 k.1)

-- the nodes are those of the list of what is counted, and back

pub nodes_each : {K : Type 0} (P : K → Type 0) (p : Price K) → Nodes P p → Each P (counted_in p)
nodes_each P Nothing h = tt
nodes_each P One h = tt
nodes_each P (Node k) h = (h, tt)
nodes_each P (Plus p q) h = each_joined P (counted_in p) (counted_in q) (nodes_each P p h.0) (nodes_each P q h.1)
nodes_each P (Most p q) h = each_joined P (counted_in p) (counted_in q) (nodes_each P p h.0) (nodes_each P q h.1)

pub each_nodes : {K : Type 0} (P : K → Type 0) (p : Price K) → Each P (counted_in p) → Nodes P p
each_nodes P Nothing h = tt
each_nodes P One h = tt
each_nodes P (Node k) h = h.0
each_nodes P (Plus p q) h =
    (each_nodes P p (each_left P (counted_in p) (counted_in q) h), each_nodes P q (each_right P (counted_in p) (counted_in q) h))
each_nodes P (Most p q) h =
    (each_nodes P p (each_left P (counted_in p) (counted_in q) h), each_nodes P q (each_right P (counted_in p) (counted_in q) h))

pub nodes_of : {K : Type 0} (P : K → Type 0) (p : Price K) → ((k : K) → Among (counted_in p) k → P k) → Nodes P p
nodes_of P p h = each_nodes P p (among_each P (counted_in p) h)

pub of_nodes : {K : Type 0} (P : K → Type 0) (p : Price K) → Nodes P p → (k : K) → Among (counted_in p) k → P k
of_nodes P p h k there = each_among P (counted_in p) k (nodes_each P p h) there

pub nodes_sum : {K X : Type 0} (P : K → Type 0) (g : X → Price K) (xs : List X) → ((x : X) → Among xs x → Nodes P (g x)) → Nodes P (sum_price g xs)
nodes_sum P g [] h = tt
nodes_sum P g (x ∷ xs) h = (h x (inl refl), nodes_sum P g xs (λ y k. h y (inr k)))

pub nodes_most : {K X : Type 0} (P : K → Type 0) (g : X → Price K) (xs : List X) → ((x : X) → Among xs x → Nodes P (g x)) → Nodes P (most_price g xs)
nodes_most P g [] h = tt
nodes_most P g (x ∷ xs) h = (h x (inl refl), nodes_most P g xs (λ y k. h y (inr k)))

pub nodes_if : {K : Type 0} (P : K → Type 0) (b : Bool) (p : Price K) → (b ≡ true → Nodes P p) → Nodes P (if_price b p)
nodes_if P true p h = h refl
nodes_if P false p h = tt

-- The largest

pub among_most : {K X : Type 0} (f : K → ℕ) (g : X → Price K) (xs : List X) (x : X) → Among xs x → worth f (g x) ≤ worth f (most_price g xs)
among_most f g [] x h = absurd cc
among_most {K} {X} f g (y ∷ xs) x (inl same) =
    subst (λ (z : X). worth f (g z) ≤ worth f (most_price g (y ∷ xs))) same (le-max_left (worth f (g y)) (worth f (most_price g xs)))
among_most f g (y ∷ xs) x (inr more) =
    le_trans (worth f (g x)) (worth f (most_price g xs)) (worth f (most_price g (y ∷ xs))) (among_most f g xs x more)
    (le-max_right (worth f (g y)) (worth f (most_price g xs)))

pub most_less : {K X : Type 0} (f : K → ℕ) (g h : X → Price K) → ((x : X) → worth f (g x) ≤ worth f (h x)) → (xs : List X) → worth f (most_price g xs) ≤ worth f (most_price h xs)
most_less f g h less [] = le_same 0
most_less f g h less (x ∷ xs) =
    max_both (worth f (g x)) (worth f (h x)) (worth f (most_price g xs)) (worth f (most_price h xs)) (less x) (most_less f g h less xs)

pub most_at_most : {K X : Type 0} (f : K → ℕ) (g : X → Price K) (xs : List X) (n : ℕ) → ((x : X) → Among xs x → worth f (g x) ≤ n) → worth f (most_price g xs) ≤ n
most_at_most f g [] n h = omega arith
most_at_most f g (x ∷ xs) n h = max-le (h x (inl refl)) (most_at_most f g xs n (λ y k. h y (inr k)))

-- Sums

pub among_sum : {K X : Type 0} (f : K → ℕ) (g : X → Price K) (xs : List X) (x : X) → Among xs x → worth f (g x) ≤ worth f (sum_price g xs)
among_sum f g [] x h = absurd cc
among_sum {K} {X} f g (y ∷ xs) x (inl same) =
    subst (λ (z : X). worth f (g z) ≤ worth f (sum_price g (y ∷ xs))) same (first (worth f (g y)) (worth f (sum_price g xs)))
  where
    first : (a b : ℕ) → a ≤ a + b
    first a b = omega arith
among_sum f g (y ∷ xs) x (inr more) = behind (worth f (g x)) (worth f (g y)) (worth f (sum_price g xs)) (among_sum f g xs x more)
  where
    behind : (a b c : ℕ) → a ≤ c → a ≤ b + c
    behind a b c h = omega (arith, h)

pub sum_less : {K X : Type 0} (f : K → ℕ) (g h : X → Price K) → ((x : X) → worth f (g x) ≤ worth f (h x)) → (xs : List X) → worth f (sum_price g xs) ≤ worth f (sum_price h xs)
sum_less f g h less [] = le_same 0
sum_less f g h less (x ∷ xs) =
    le_both (worth f (g x)) (worth f (h x)) (worth f (sum_price g xs)) (worth f (sum_price h xs)) (less x) (sum_less f g h less xs)

pub sum_append : {K X : Type 0} (f : K → ℕ) (g : X → Price K) (xs ys : List X) → worth f (sum_price g (xs ++ ys)) ≡ worth f (sum_price g xs) + worth f (sum_price g ys)
sum_append f g [] ys = added (worth f (sum_price g ys))
  where
    added : (a : ℕ) → a ≡ 0 + a
    added a = omega arith
sum_append f g (x ∷ xs) ys =
    joined (worth f (g x)) (worth f (sum_price g (xs ++ ys))) (worth f (sum_price g xs)) (worth f (sum_price g ys)) (sum_append f g xs ys)
  where
    joined : (a b c d : ℕ) → b ≡ c + d → a + b ≡ a + c + d
    joined a b c d h = omega (arith, h)

pub sum_map : {K X Y : Type 0} (f : K → ℕ) (g : Y → Price K) (h : X → Y) (xs : List X) → worth f (sum_price g (map h xs)) ≡ worth f (sum_price (λ x. g (h x)) xs)
sum_map f g h [] = refl
sum_map f g h (x ∷ xs) = λ i. worth f (g (h x)) + sum_map f g h xs i
