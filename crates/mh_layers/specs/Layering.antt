-- Costs and ranks of nodes as they are laid, and that there are no ranks.
use Rattle.std.specs.Prelude.{◌≡◌, ℕ, zero, suc, ◌+◌, ◌*◌, ◌-◌, ◌^◌, ◌<◌, ◌≤◌, Bool, true, false, List, [], ◌∷◌, length, min, Option, Some, None, is_some, Err, Ok, slice_get}
use Rattle.std.specs.Map.{lookup}
use Rattle.std.specs.Option.{option_map}
use Rattle.indexmap.specs.IndexMap.{insert_entry}
use Rattle.mh_layers.specs.declared.laying.costs.Laid.{Laid}
use Rattle.mh_layers.specs.declared.numbered_node.NumberedNode.{NumberedNode}
use Rattle.mh_laws.specs.Price.{Price, worth, Nodes}
use Rattle.mh_layers.specs.Known.{known_worth, told, top}
use Rattle.mh_layers.specs.NumberedNodes.{same_node}

-- what is known of nodes, in the order in which they got a place: cost and rank of what is laid
abbrev pub Places : Type 0
Places = List (NumberedNode × Option Laid)

abbrev pub held : Option (Option Laid) → Option Laid
held None = None
held (Some x) = x

-- what stands at the node's place, if it has one
abbrev pub place_in : Places → NumberedNode → Option (Option Laid)
place_in ts k = lookup (same_node k) ts

abbrev pub has_place : Places → NumberedNode → Bool
has_place ts k = is_some (place_in ts k)

abbrev pub laid_in : Places → NumberedNode → Option Laid
laid_in ts k = held (place_in ts k)

abbrev pub is_laid : Places → NumberedNode → Bool
is_laid ts k = is_some (laid_in ts k)

abbrev pub cost_of : Option Laid → Option ℕ
cost_of None = None
cost_of (Some x) = Some x.cost

abbrev pub cost_in : Places → NumberedNode → Option ℕ
cost_in ts k = cost_of (laid_in ts k)

abbrev pub rank_of : Option Laid → ℕ
rank_of None = 0
rank_of (Some x) = x.rank

abbrev pub rank_in : Places → NumberedNode → ℕ
rank_in ts k = rank_of (laid_in ts k)

-- the node of the place with this number
abbrev pub node_at : Places → ℕ → Option NumberedNode
node_at ts n = option_map (λ e. e.0) (slice_get ts n)

-- how many have a place and are not laid

abbrev pub is_free : Option Laid → ℕ
is_free None = 1
is_free (Some x) = 0

abbrev pub free : Places → ℕ
free [] = 0
free (e ∷ es) = is_free e.1 + free es

-- WHAT IS LAID

-- it is laid, with a rank below this
abbrev pub IsLower : Option Laid → ℕ → Type 0
IsLower None n = false ≡ true
IsLower (Some x) n = x.rank < n

-- Costs are what the prices come to, and all that a price counts is laid and has a lower rank. That is said of the nodes that
-- are kept: of another nothing is known.
pub record AreLayers (price : NumberedNode → Price NumberedNode) (kept : NumberedNode → Type 0) (ts : Places) : Type 0 where
  pub comes : (k : NumberedNode) (x : Laid) → kept k → laid_in ts k ≡ Some x → known_worth (told (cost_in ts)) (price k) ≡ Ok x.cost
  pub falls : (k : NumberedNode) (x : Laid) → kept k → laid_in ts k ≡ Some x → Nodes (λ j. IsLower (laid_in ts j) x.rank) (price k)

-- all ranks are below the next one
pub record AreBelow (ts : Places) (next : ℕ) : Type 0 where
  pub each : (k : NumberedNode) (x : Laid) → laid_in ts k ≡ Some x → x.rank < next

-- so many ranks are given, one for each node that is laid
abbrev pub HasRoom : Places → ℕ → Type 0
HasRoom ts next = next + free ts ≤ length ts

-- what was laid stays as it was, and what had a place has one
pub record Grows (old new : Places) : Type 0 where
  pub stays : (k : NumberedNode) (x : Laid) → laid_in old k ≡ Some x → laid_in new k ≡ Some x
  pub places : (k : NumberedNode) → has_place old k ≡ true → has_place new k ≡ true

-- NO RANKS

-- what a kept node counts is kept
pub record CountsKept (price : NumberedNode → Price NumberedNode) (kept : NumberedNode → Type 0) : Type 0 where
  pub each : (k : NumberedNode) → kept k → Nodes kept (price k)

-- a number for each node that is kept, smaller for what its price counts
abbrev pub AreRanks : (NumberedNode → Price NumberedNode) → (NumberedNode → Type 0) → (NumberedNode → ℕ) → Type 0
AreRanks price kept rank = (k : NumberedNode) → kept k → Nodes (λ j. rank j < rank k) (price k)

pub record NoneRanked (price : NumberedNode → Price NumberedNode) (kept : NumberedNode → Type 0) : Type 0 where
  pub none : (rank : NumberedNode → ℕ) → AreRanks price kept rank → ⊥

-- EXACT COSTS

-- each is what its price comes to
abbrev pub IsCost : (NumberedNode → Price NumberedNode) → (NumberedNode → Type 0) → (NumberedNode → ℕ) → Type 0
IsCost price kept f = (k : NumberedNode) → kept k → f k ≡ worth f (price k)

-- costs that are laid are these, or the largest number where these are larger
abbrev pub LayersAreExact : (NumberedNode → Price NumberedNode) → (NumberedNode → Type 0) → Type 0
LayersAreExact price kept =
    (ts : Places) (f : NumberedNode → ℕ) → CountsKept price kept → AreLayers price kept ts → IsCost price kept f →
    (k : NumberedNode) → kept k → is_laid ts k ≡ true → cost_in ts k ≡ Some (min (f k) top)

-- the cost of a node, counted so many nodes deep
abbrev pub counted_to : (NumberedNode → Price NumberedNode) → ℕ → NumberedNode → ℕ
counted_to price zero k = 0
counted_to price (suc d) k = worth (counted_to price d) (price k)

-- and there are exact costs where there are ranks
abbrev pub CostsExist : (NumberedNode → Price NumberedNode) → (NumberedNode → Type 0) → Type 0
CostsExist price kept =
    (rank : NumberedNode → ℕ) → CountsKept price kept → AreRanks price kept rank → (most : ℕ) → ((k : NumberedNode) → kept k → rank k < most) →
    IsCost price kept (counted_to price (suc most))

-- STEPS

-- twice the places that are left, and what is not laid: it falls with each place that is given and each cost that is laid
abbrev pub left : Places → ℕ
left ts = 2 * (2 ^ 64 - length ts) + free ts

-- something changed, or nothing
pub record IsStep (old new : Places) (changed : Bool) : Type 0 where
  pub less : changed ≡ true → left new < left old
  pub no_more : left new ≤ left old
  pub same : changed ≡ false → new ≡ old

-- the node is laid now, with this cost and with a rank above all others
pub record IsNoted (old new : Places) (k : NumberedNode) (cost : ℕ) : Type 0 where
  pub rank : ℕ
  pub below : AreBelow old rank
  pub now : new ≡ insert_entry same_node old k (Some (record { cost = cost; rank = rank }))

-- the node has a place now: one was given to it, or it had one
pub record IsPlaced (old new : Places) (k : NumberedNode) (given : Bool) : Type 0 where
  pub now : given ≡ true → new ≡ insert_entry same_node old k None
  pub none : given ≡ true → place_in old k ≡ None
  pub same : given ≡ false → new ≡ old
  pub there : has_place new k ≡ true
  pub short : length new < 2 ^ 63

-- the node is laid now, or its price tells that it waits for another
pub record IsSettled (price : NumberedNode → Price NumberedNode) (kept : NumberedNode → Type 0) (old new : Places) (k : NumberedNode) (next : Option NumberedNode) : Type 0 where
  pub less : next ≡ None → has_place old k ≡ true → left new < left old
  pub same : (j : NumberedNode) → next ≡ Some j → new ≡ old
  pub waits : (j : NumberedNode) → next ≡ Some j → kept k → known_worth (told (cost_in old)) (price k) ≡ Err j

-- it waits for a node that has a place
abbrev pub Waits : (NumberedNode → Price NumberedNode) → Places → NumberedNode → Type 0
Waits price ts k = (j : NumberedNode) × (known_worth (told (cost_in ts)) (price k) ≡ Err j) × (has_place ts j ≡ true)

-- where nothing changed, the node waits, if it is kept and not laid
pub record IsWaiting (price : NumberedNode → Price NumberedNode) (kept : NumberedNode → Type 0) (ts : Places) (k : NumberedNode) (changed : Bool) : Type 0 where
  pub waits : changed ≡ false → kept k → laid_in ts k ≡ None → Waits price ts k

-- the same of the node of the place with this number
pub record IsWaitingAt (price : NumberedNode → Price NumberedNode) (kept : NumberedNode → Type 0) (ts : Places) (n : ℕ) (changed : Bool) : Type 0 where
  pub waits : changed ≡ false → (k : NumberedNode) → node_at ts n ≡ Some k → kept k → laid_in ts k ≡ None → Waits price ts k

-- and of each of the first places
pub record AreWaiting (price : NumberedNode → Price NumberedNode) (kept : NumberedNode → Type 0) (ts : Places) (n : ℕ) (changed : Bool) : Type 0 where
  pub each : changed ≡ false → (i : ℕ) (k : NumberedNode) → i < n → node_at ts i ≡ Some k → kept k → laid_in ts k ≡ None → Waits price ts k
