-- What prices come to where the costs of some nodes are known: sums stop at the largest number of 64 bits, and where a
-- node is waited for, the first of them is told.
use Rattle.std.specs.Prelude.{ℕ, ◌+◌, ◌-◌, ◌^◌, Option, Some, None, Result, Ok, Err, max, min}
use Rattle.mh_laws.specs.Price.{Price, Nothing, One, Node, Plus, Most}
use Rattle.mh_prices.specs.Meter.{Meter}

-- the largest number of 64 bits
abbrev pub top : ℕ
top = 2 ^ 64 - 1

abbrev pub both : {E : Type 0} → (ℕ → ℕ → ℕ) → Result ℕ E → Result ℕ E → Result ℕ E
both f (Err e) y = Err e
both f (Ok a) (Err e) = Err e
both f (Ok a) (Ok b) = Ok (f a b)

-- a sum that stops at the largest number
abbrev pub added : {E : Type 0} → Result ℕ E → Result ℕ E → Result ℕ E
added x y = both (λ a b. min (a + b) top) x y

abbrev pub larger : {E : Type 0} → Result ℕ E → Result ℕ E → Result ℕ E
larger x y = both max x y

-- what a price comes to, where this is told of each node: its cost, of which no more counts than the largest number, or what
-- is waited for; then the first of these
abbrev pub known_worth : {K E : Type 0} → (K → Result ℕ E) → Price K → Result ℕ E
known_worth f Nothing = Ok 0
known_worth f One = Ok 1
known_worth f (Node k) = added (Ok 0) (f k)
known_worth f (Plus p q) = added (known_worth f p) (known_worth f q)
known_worth f (Most p q) = larger (known_worth f p) (known_worth f q)

-- what is told of a node whose cost is this, if it is known: it is waited for where it is not
abbrev pub told_of : {K : Type 0} → K → Option ℕ → Result ℕ K
told_of k (Some c) = Ok c
told_of k None = Err k

abbrev pub told : {K : Type 0} → (K → Option ℕ) → K → Result ℕ K
told cost k = told_of k (cost k)

-- the meter that is read so: aside stand what there was and the largest so far
abbrev pub knowing : {K E : Type 0} → (K → Result ℕ E) → Meter K (Result ℕ E) (Result ℕ E × Result ℕ E)
knowing f = record {
  one = λ s. added s (Ok 1);
  node = λ k s. added s (f k);
  aside = λ s. ((s, Ok 0), Ok 0);
  next = λ b. ((b.0.0, larger b.0.1 b.1), Ok 0);
  close = λ b. added b.0.0 (larger b.0.1 b.1);
}
