-- Edges between sets.
use Rattle.std.specs.Prelude.{◌≡◌, ◌&&◌, ℕ, Bool, true, false, List, nat_eq}
use Rattle.std.specs.List.{Contains, list_any}
use Rattle.mh_flow.specs.declared.fixpoint.edges.Edge.{Edge}
use Rattle.mh_flow.specs.declared.fixpoint.edges.Edges.{Edges}
use Rattle.mh_flow.specs.Rows.{number_rows, row, Pushed}

-- the sets to which the edges of each set lead
abbrev pub ends : Edges → List (List ℕ)
ends edges = number_rows edges.rows.items

abbrev pub same_edge : Edge → Edge → Bool
same_edge a b = nat_eq a.from b.from && nat_eq a.to b.to

-- what stands in the table stands in the rows
abbrev pub AreTabled : Edges → Type 0
AreTabled edges = (e : Edge) → list_any (same_edge e) edges.table.keys ≡ true → Contains (row (ends edges) e.from) e.to

-- the edge is put in if it is new, and else it is there
abbrev pub HasEdge : ℕ → ℕ → Bool → List (List ℕ) → List (List ℕ) → Type 0
HasEdge from to true old new = Pushed from to old new
HasEdge from to false old new = (new ≡ old) × Contains (row old from) to
