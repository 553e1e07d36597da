-- What follows from what, and what is reached by finite chains of it.
use Rattle.std.specs.Prelude.{ℕ, ◌<◌, List}
use Rattle.std.specs.List.{Contains}
use Rattle.mh_flow.specs.declared.fixpoint.constraints.Fact.{Fact}
use Rattle.mh_flow.specs.declared.fixpoint.constraints.Item.{Item}
use Rattle.mh_flow.specs.declared.fixpoint.constraints.Item.TheVariants as item

-- how many sets there are, and how many numbers can be members; what is there at the start, and what a member opens
pub record ConstraintSystem : Type 0 where
  pub nodes : ℕ
  pub width : ℕ
  pub starts : List Item
  pub opens : Fact → List Item

-- the sets that are named are there, and so is the member
abbrev pub fits : ConstraintSystem → Item → Type 0
fits system (item.Member f) = (f.node < system.nodes) × (f.member < system.width)
fits system (item.Edge u v) = (u < system.nodes) × (v < system.nodes)

-- all that is said fits
pub record IsFit (system : ConstraintSystem) : Type 0 where
  pub starts : (x : Item) → Contains system.starts x → fits system x
  pub opened : (f : Fact) (x : Item) → Contains (system.opens f) x → fits system x

-- what is there at the start; what a derived member opens; a derived member, along a derived edge
pub data Derived (system : ConstraintSystem) : Item → Type 0 where
  begun : (x : Item) → Contains system.starts x → Derived system x
  opened : (f : Fact) (x : Item) → Derived system (item.Member f) → Contains (system.opens f) x → Derived system x
  along : (u v q : ℕ) → Derived system (item.Edge u v) → Derived system (item.Member (record { node = u; member = q })) →
      Derived system (item.Member (record { node = v; member = q }))
