-- Nodes by number and by name.
use Rattle.std.specs.Prelude.{◌≡◌, ℕ, ◌<◌, Option, Some, Ok}
use Rattle.mh_laws.specs.Price.{Price, Nothing, One, Node, Plus, Most, Nodes}
use Rattle.mh_prices.specs.Meter.{Meter}
use Rattle.mh_layers.specs.Known.{known_worth, told}

-- a price over numbers
abbrev pub numbered : {K L : Type 0} → (K → L) → Price K → Price L
numbered g Nothing = Nothing
numbered g One = One
numbered g (Node k) = Node (g k)
numbered g (Plus p q) = Plus (numbered g p) (numbered g q)
numbered g (Most p q) = Most (numbered g p) (numbered g q)

-- a meter of numbers, as one of their names
abbrev pub through : {K L S M : Type 0} → (K → L) → Meter L S M → Meter K S M
through g m = record { one = m.one; node = λ k s. m.node (g k) s; aside = m.aside; next = m.next; close = m.close }

-- costs and ranks by name: each node that has them costs what its price comes to, and its rank is above those that its
-- price counts
pub record AreNamed {K : Type 0} (price : K → Price K) (has : K → Type 0) (cost : K → Option ℕ) (rank : K → ℕ) : Type 0 where
  pub comes : (k : K) → has k → (c : ℕ) × (cost k ≡ Some c) × (known_worth (told cost) (price k) ≡ Ok c)
  pub falls : (k : K) → has k → Nodes (λ j. has j × (rank j < rank k)) (price k)
