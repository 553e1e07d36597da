-- Prices are reckoned: as what they come to, or as a test of all that they count. What holds of each way to reckon is said once.
use Rattle.std.specs.Prelude.{◌≡◌, ℕ, ◌+◌, Bool, true, false, ◌&&◌, cond, List, [], ◌∷◌, ◌++◌, filter, max, refl}
use Rattle.std.proofs.Common.{arith, inl, inr, ◌∙◌, sym, subst}
use Rattle.mh_laws.specs.Each.{Among}
use Rattle.mh_laws.specs.Price.{Price, Nothing, One, Node, Plus, Most, sum_price, most_price, if_price, worth, Nodes}

-- a way to reckon
pub record Way (A : Type 0) : Type 0 where
  pub none : A
  pub one : A
  pub plus : A → A → A
  pub most : A → A → A
  pub plus_none : (a : A) → plus none a ≡ a
  pub plus_swap : (a b : A) → plus a b ≡ plus b a
  pub plus_join : (a b c : A) → plus (plus a b) c ≡ plus a (plus b c)
  pub most_none : (a : A) → most none a ≡ a
  pub most_swap : (a b : A) → most a b ≡ most b a
  pub most_join : (a b c : A) → most (most a b) c ≡ most a (most b c)
  pub most_same : (a : A) → most a a ≡ a
  pub spread : (a b c : A) → plus a (most b c) ≡ most (plus a b) (plus a c)
  pub above : (a b : A) → most a (plus a b) ≡ plus a b

abbrev pub reckon : {A K : Type 0} → Way A → (K → A) → Price K → A
reckon y f Nothing = y.none
reckon y f One = y.one
reckon y f (Node k) = f k
reckon y f (Plus p q) = y.plus (reckon y f p) (reckon y f q)
reckon y f (Most p q) = y.most (reckon y f p) (reckon y f q)

-- as a cost

abbrev pub by_worth : Way ℕ
by_worth = record {
  none = 0;
  one = 1;
  plus = λ a b. a + b;
  most = max;
  plus_none = λ a. omega arith;
  plus_swap = λ a b. omega arith;
  plus_join = λ a b c. omega arith;
  most_none = λ a. omega arith;
  most_swap = λ a b. omega arith;
  most_join = λ a b c. omega arith;
  most_same = λ a. omega arith;
  spread = λ a b c. omega arith;
  above = λ a b. omega arith;
}

pub reckon_worth : {K : Type 0} (f : K → ℕ) (p : Price K) → reckon by_worth f p ≡ worth f p
reckon_worth f Nothing = refl
reckon_worth f One = refl
reckon_worth f (Node k) = refl
reckon_worth f (Plus p q) = λ i. reckon_worth f p i + reckon_worth f q i
reckon_worth f (Most p q) = λ i. max (reckon_worth f p i) (reckon_worth f q i)

-- as a test

pub and_swap : (a b : Bool) → (a && b) ≡ (b && a)
and_swap true true = refl
and_swap true false = refl
and_swap false true = refl
and_swap false false = refl

pub and_join : (a b c : Bool) → ((a && b) && c) ≡ (a && (b && c))
and_join true b c = refl
and_join false b c = refl

pub and_same : (a : Bool) → (a && a) ≡ a
and_same true = refl
and_same false = refl

pub and_spread : (a b c : Bool) → (a && (b && c)) ≡ ((a && b) && (a && c))
and_spread true b c = refl
and_spread false b c = refl

pub and_above : (a b : Bool) → (a && (a && b)) ≡ (a && b)
and_above true b = refl
and_above false b = refl

abbrev pub by_test : Way Bool
by_test = record {
  none = true;
  one = true;
  plus = λ a b. a && b;
  most = λ a b. a && b;
  plus_none = λ a. refl;
  plus_swap = and_swap;
  plus_join = and_join;
  most_none = λ a. refl;
  most_swap = and_swap;
  most_join = and_join;
  most_same = and_same;
  spread = and_spread;
  above = and_above;
}

-- a way, and what nodes come to

pub plus_right : {A : Type 0} (y : Way A) (a : A) → y.plus a y.none ≡ a
plus_right y a = y.plus_swap a y.none ∙ y.plus_none a

pub most_right : {A : Type 0} (y : Way A) (a : A) → y.most a y.none ≡ a
most_right y a = y.most_swap a y.none ∙ y.most_none a

-- the second of three and the first change places
pub plus_over : {A : Type 0} (y : Way A) (a b c : A) → y.plus a (y.plus b c) ≡ y.plus b (y.plus a c)
plus_over y a b c = sym (y.plus_join a b c) ∙ (λ i. y.plus (y.plus_swap a b i) c) ∙ y.plus_join b a c

pub plus_pairs : {A : Type 0} (y : Way A) (a b c d : A) → y.plus (y.plus a b) (y.plus c d) ≡ y.plus (y.plus a c) (y.plus b d)
plus_pairs y a b c d =
    y.plus_join a b (y.plus c d) ∙ (λ i. y.plus a (plus_over y b c d i)) ∙ sym (y.plus_join a c (y.plus b d))

-- The order of what is reckoned: the larger of both is the second.

abbrev pub Below : {A : Type 0} → Way A → A → A → Type 0
Below y a b = y.most a b ≡ b

pub below_same : {A : Type 0} (y : Way A) (a : A) → Below y a a
below_same y a = y.most_same a

pub below_none : {A : Type 0} (y : Way A) (a : A) → Below y y.none a
below_none y a = y.most_none a

pub below_trans : {A : Type 0} (y : Way A) (a b c : A) → Below y a b → Below y b c → Below y a c
below_trans y a b c h k = (λ i. y.most a (sym k i)) ∙ sym (y.most_join a b c) ∙ (λ i. y.most (h i) c) ∙ k

pub below_both : {A : Type 0} (y : Way A) (a b c : A) → Below y a c → Below y b c → Below y (y.most a b) c
below_both y a b c h k = y.most_join a b c ∙ (λ i. y.most a (k i)) ∙ h

pub below_left : {A : Type 0} (y : Way A) (a b : A) → Below y a (y.most a b)
below_left y a b = sym (y.most_join a a b) ∙ (λ i. y.most (y.most_same a i) b)

pub below_right : {A : Type 0} (y : Way A) (a b : A) → Below y b (y.most a b)
below_right y a b = (λ i. y.most b (y.most_swap a b i)) ∙ below_left y b a ∙ y.most_swap b a

pub below_plus : {A : Type 0} (y : Way A) (a b c : A) → Below y b c → Below y (y.plus a b) (y.plus a c)
below_plus y a b c h = sym (y.spread a b c) ∙ (λ i. y.plus a (h i))

pub both_below : {A : Type 0} (y : Way A) (a b : A) → Below y a b → Below y b a → a ≡ b
both_below y a b h k = sym k ∙ y.most_swap b a ∙ h

-- Sums and maxima over lists

pub sum_same : {A K X : Type 0} (y : Way A) (f : K → A) (g h : X → Price K) (xs : List X) → ((x : X) → reckon y f (g x) ≡ reckon y f (h x)) → reckon y f (sum_price g xs) ≡ reckon y f (sum_price h xs)
sum_same y f g h [] e = refl
sum_same y f g h (x ∷ xs) e = λ i. y.plus (e x i) (sum_same y f g h xs e i)

pub sum_joined : {A K X : Type 0} (y : Way A) (f : K → A) (g : X → Price K) (xs zs : List X) → reckon y f (sum_price g (xs ++ zs)) ≡ y.plus (reckon y f (sum_price g xs)) (reckon y f (sum_price g zs))
sum_joined y f g [] zs = sym (y.plus_none (reckon y f (sum_price g zs)))
sum_joined y f g (x ∷ xs) zs =
    (λ i. y.plus (reckon y f (g x)) (sum_joined y f g xs zs i)) ∙ sym (y.plus_join (reckon y f (g x)) (reckon y f (sum_price g xs)) (reckon y f (sum_price g zs)))

pub sum_filtered : {A K X : Type 0} (y : Way A) (f : K → A) (is : X → Bool) (g : X → Price K) (xs : List X) → reckon y f (sum_price (λ x. if_price (is x) (g x)) xs) ≡ reckon y f (sum_price g (filter is xs))
sum_filtered y f is g [] = refl
sum_filtered {A} {K} {X} y f is g (x ∷ xs) = by (is x) (sum_filtered y f is g xs)
  where
    by : (b : Bool) → reckon y f (sum_price (λ x. if_price (is x) (g x)) xs) ≡ reckon y f (sum_price g (filter is xs)) → y.plus (reckon y f (if_price b (g x))) (reckon y f (sum_price (λ x. if_price (is x) (g x)) xs)) ≡ reckon y f (sum_price g (cond b (x ∷ filter is xs) (filter is xs)))
    by true behind = λ i. y.plus (reckon y f (g x)) (behind i)
    by false behind = y.plus_none (reckon y f (sum_price (λ x. if_price (is x) (g x)) xs)) ∙ behind

-- each of them is below the largest

pub below_among : {A K X : Type 0} (y : Way A) (f : K → A) (g : X → Price K) (xs : List X) (x : X) → Among xs x → Below y (reckon y f (g x)) (reckon y f (most_price g xs))
below_among y f g [] x there = absurd cc
below_among {A} {K} {X} y f g (z ∷ xs) x (inl same) =
    subst (λ (t : X). Below y (reckon y f (g t)) (reckon y f (most_price g (z ∷ xs)))) same (below_left y (reckon y f (g z)) (reckon y f (most_price g xs)))
below_among y f g (z ∷ xs) x (inr more) =
    below_trans y (reckon y f (g x)) (reckon y f (most_price g xs)) (reckon y f (most_price g (z ∷ xs))) (below_among y f g xs x more)
    (below_right y (reckon y f (g z)) (reckon y f (most_price g xs)))

pub all_below : {A K X : Type 0} (y : Way A) (f : K → A) (g : X → Price K) (xs : List X) (a : A) → ((x : X) → Among xs x → Below y (reckon y f (g x)) a) → Below y (reckon y f (most_price g xs)) a
all_below y f g [] a h = below_none y a
all_below y f g (x ∷ xs) a h = below_both y (reckon y f (g x)) (reckon y f (most_price g xs)) a (h x (inl refl)) (all_below y f g xs a (λ z there. h z (inr there)))

-- the same with something in front of each
pub all_below_with : {A K X : Type 0} (y : Way A) (f : K → A) (g : X → Price K) (xs : List X) (a b : A) → Below y a b → ((x : X) → Among xs x → Below y (y.plus a (reckon y f (g x))) b) → Below y (y.plus a (reckon y f (most_price g xs))) b
all_below_with {A} y f g [] a b low h = subst (λ (t : A). Below y t b) (sym (plus_right y a)) low
all_below_with {A} y f g (x ∷ xs) a b low h =
    subst (λ (t : A). Below y t b) (sym (y.spread a (reckon y f (g x)) (reckon y f (most_price g xs))))
    (below_both y (y.plus a (reckon y f (g x))) (y.plus a (reckon y f (most_price g xs))) b (h x (inl refl)) (all_below_with y f g xs a b low (λ z there. h z (inr there))))

-- Tests

-- what passes at each node
pub nodes_pass : {K : Type 0} (t : K → Bool) (p : Price K) → Nodes (λ k. t k ≡ true) p → reckon by_test t p ≡ true
nodes_pass t Nothing h = refl
nodes_pass t One h = refl
nodes_pass t (Node k) h = h
nodes_pass t (Plus p q) h = λ i. nodes_pass t p h.0 i && nodes_pass t q h.1 i
nodes_pass t (Most p q) h = λ i. nodes_pass t p h.0 i && nodes_pass t q h.1 i

both_parts : (a b : Bool) → (a && b) ≡ true → (a ≡ true) × (b ≡ true)
both_parts true b e = (refl, e)
both_parts false b e = absurd cc

pub pass_nodes : {K : Type 0} (t : K → Bool) (p : Price K) → reckon by_test t p ≡ true → Nodes (λ k. t k ≡ true) p
pass_nodes t Nothing e = tt
pass_nodes t One e = tt
pass_nodes t (Node k) e = e
pass_nodes t (Plus p q) e = let both = both_parts (reckon by_test t p) (reckon by_test t q) e in (pass_nodes t p both.0, pass_nodes t q both.1)
pass_nodes t (Most p q) e = let both = both_parts (reckon by_test t p) (reckon by_test t q) e in (pass_nodes t p both.0, pass_nodes t q both.1)
