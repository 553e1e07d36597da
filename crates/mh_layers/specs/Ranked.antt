-- Parts of a graph, in an order of the arrows, and nodes that are alone: on no cycle.
use Rattle.std.specs.Prelude.{◌≡◌, ◌<◌, ◌≤◌, ◌||◌, ◌&&◌, not, ℕ, Bool, true, false, List, get_or, length, nat_le, nat_lt}
use Rattle.std.specs.List.{Contains, list_all, range_with_len}
use Rattle.mh_paths.specs.declared.graph.Arrow.{Arrow}
use Rattle.mh_paths.specs.declared.graph.Graph.{Graph}
use Rattle.mh_paths.specs.Chains.{arrows_of}

-- the part of a node; what has none stands behind all
abbrev pub part_in : List ℕ → ℕ → ℕ
part_in parts n = get_or parts n 18446744073709551615

abbrev pub is_alone : List Bool → ℕ → Bool
is_alone alone n = get_or alone n false

-- no arrow leads to an earlier part, and what leads to a node that is alone comes from an earlier one
pub record AreParts (g : Graph) (parts : List ℕ) (lone : List Bool) : Type 0 where
  pub later : (n : ℕ) (a : Arrow) → Contains (arrows_of g n) a → part_in parts n ≤ part_in parts a.to
  pub alone : (n : ℕ) (a : Arrow) → Contains (arrows_of g n) a → is_alone lone a.to ≡ true → part_in parts n < part_in parts a.to

-- the same as a test: of one arrow, of those that leave a node, of all

abbrev pub leads_ahead : List ℕ → List Bool → ℕ → Arrow → Bool
leads_ahead parts alone n a = nat_lt (part_in parts n) (part_in parts a.to) || (nat_le (part_in parts n) (part_in parts a.to) && not (is_alone alone a.to))

abbrev pub all_ahead : List ℕ → List Bool → Graph → ℕ → Bool
all_ahead parts alone g n = list_all (leads_ahead parts alone n) (arrows_of g n)

abbrev pub are_ahead : List ℕ → List Bool → Graph → Bool
are_ahead parts alone g = list_all (all_ahead parts alone g) (range_with_len 0 (length g.nodes.items))
