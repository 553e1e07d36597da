-- Sets as rows of bits, and the least ones under rules.
use Rattle.std.specs.Prelude.{◌≡◌, ℕ, Bool, true, List, length}
use Rattle.std.specs.List.{Contains}
use Rattle.mh_flow.specs.declared.fixpoint.constraints.Fact.{Fact}
use Rattle.mh_flow.specs.declared.fixpoint.constraints.Item.{Item}
use Rattle.mh_flow.specs.declared.fixpoint.constraints.Item.TheVariants as item
use Rattle.mh_flow.specs.Rows.{row, has, places_from}
use Rattle.mh_flow.specs.Constraints.{ConstraintSystem, Derived}

-- a member that a set has, or an edge that is one of these
abbrev pub IsThere : List (List Bool) → List (List ℕ) → Item → Type 0
IsThere rows edges (item.Member f) = has rows f.node f.member ≡ true
IsThere rows edges (item.Edge u v) = Contains (row edges u) v

-- the least sets. There are edges such that what is there at the start is there, what a member opens is there, members
-- go along edges, and all that is there is derived.
pub record IsLeast (system : ConstraintSystem) (rows : List (List Bool)) : Type 0 where
  pub edges : List (List ℕ)
  pub height : length rows ≡ system.nodes
  pub starts : (x : Item) → Contains system.starts x → IsThere rows edges x
  pub opened : (f : Fact) → has rows f.node f.member ≡ true →
      (x : Item) → Contains (system.opens f) x → IsThere rows edges x
  pub along : (u v q : ℕ) → Contains (row edges u) v → has rows u q ≡ true → has rows v q ≡ true
  pub derived : (x : Item) → IsThere rows edges x → Derived system x

-- the members of a set, from the smallest up
abbrev pub members_of : List (List Bool) → ℕ → List ℕ
members_of rows u = places_from 0 (row rows u)
