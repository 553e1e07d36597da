-- What is known while the search goes on, and how it grows.
use Rattle.std.specs.Prelude.{◌≡◌, ◌⊎◌, ℕ, ◌≤◌, ◌*◌, Bool, true, List, [], length, replicate}
use Rattle.std.specs.List.{Contains}
use Rattle.mh_flow.specs.declared.fixpoint.constraints.Fact.{Fact}
use Rattle.mh_flow.specs.declared.fixpoint.constraints.Item.{Item}
use Rattle.mh_flow.specs.declared.fixpoint.edges.Edges.{Edges}
use Rattle.mh_flow.specs.declared.fixpoint.gathered.Gathered.{Gathered}
use Rattle.mh_flow.specs.Rows.{row, is_at, has}
use Rattle.mh_flow.specs.Edging.{ends, AreTabled}
use Rattle.mh_flow.specs.Membership.{MemberRows, AreMembers, rows_of, words_of, left}
use Rattle.mh_flow.specs.Membership as membership
use Rattle.mh_flow.specs.Constraints.{ConstraintSystem, Derived}
use Rattle.mh_flow.specs.Sets.{IsThere}

-- the members of sets, and edges
pub record View : Type 0 where
  pub members : MemberRows
  pub edges : Edges

abbrev pub view : Gathered → View
view g = record { members = rows_of g.members; edges = g.edges }

-- nothing is known of so many sets, of numbers below this width
pub record IsBegun (nodes width : ℕ) (g : View) : Type 0 where
  pub members : g.members ≡ membership.nothing nodes (words_of width)
  pub edges : ends g.edges ≡ replicate nodes []
  pub tabled : AreTabled g.edges

-- this is known
abbrev pub IsIn : View → Item → Type 0
IsIn g x = IsThere g.members.known (ends g.edges) x

-- all that is known is derived
pub record IsSound (system : ConstraintSystem) (g : View) : Type 0 where
  pub members : AreMembers g.members
  pub words : g.members.words ≡ words_of system.width
  pub height : length g.members.known ≡ system.nodes
  pub edges : length (ends g.edges) ≡ system.nodes
  pub tabled : AreTabled g.edges
  pub derived : (x : Item) → IsIn g x → Derived system x

-- the consequences of a member are due: it is fresh, or one of this row of this set
abbrev pub IsDue : View → ℕ → List Bool → ℕ → ℕ → Type 0
IsDue g n bits u q = (has g.members.fresh u q ≡ true) ⊎ ((u ≡ n) × (is_at bits q ≡ true))

-- the consequences of what is known are known, but for those of what is due
pub record IsClosed (system : ConstraintSystem) (g : View) (n : ℕ) (bits : List Bool) : Type 0 where
  pub along : (u v q : ℕ) → Contains (row (ends g.edges) u) v → has g.members.known u q ≡ true →
      (has g.members.known v q ≡ true) ⊎ IsDue g n bits u q
  pub opened : (f : Fact) → has g.members.known f.node f.member ≡ true →
      ((x : Item) → Contains (system.opens f) x → IsIn g x) ⊎ IsDue g n bits f.node f.member

-- what is known grows, what is new is fresh, and no more is left
pub record IsStep (system : ConstraintSystem) (old new : View) : Type 0 where
  pub grows : (x : Item) → IsIn old x → IsIn new x
  pub keeps : (n : ℕ) (bits : List Bool) → IsClosed system old n bits → IsClosed system new n bits
  pub less : left new.members ≤ left old.members

-- all of the row are known of the set
abbrev pub IsKnown : View → ℕ → List Bool → Type 0
IsKnown g n bits = (length bits ≤ 64 * g.members.words) × ((q : ℕ) → is_at bits q ≡ true → has g.members.known n q ≡ true)

-- what these members open is known
abbrev pub AreOpened : ConstraintSystem → View → ℕ → List Bool → Type 0
AreOpened system g n bits =
    (q : ℕ) → is_at bits q ≡ true → (x : Item) → Contains (system.opens (record { node = n; member = q })) x → IsIn g x

abbrev pub AreAllOpened : ConstraintSystem → View → ℕ → List ℕ → Type 0
AreAllOpened system g n members =
    (q : ℕ) → Contains members q → (x : Item) → Contains (system.opens (record { node = n; member = q })) x → IsIn g x

-- they have gone along all edges of the set
abbrev pub IsSpread : View → ℕ → List Bool → Type 0
IsSpread g n bits =
    (v : ℕ) → Contains (row (ends g.edges) n) v → (q : ℕ) → is_at bits q ≡ true → has g.members.known v q ≡ true

-- where only these were due beside what is fresh, they are no more
abbrev pub IsFollowed : ConstraintSystem → View → View → ℕ → List Bool → Type 0
IsFollowed system old new n bits = IsClosed system old n bits → IsClosed system new 0 []
