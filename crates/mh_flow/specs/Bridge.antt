-- The laws between the numbers of a service and its names: what the numbers of a chart open is within bounds; least rows
-- of bits say the least flow, in which is what is derived and nothing else; and a variable through which no action has
-- its target opens nothing.
use Rattle.std.specs.Prelude.{◌≡◌, ◌↔◌, ℕ, Bool, true, false, List, [], Option, Some}
use Rattle.std.specs.List.{list_any}
use Rattle.std.specs.Option.{option_map_or}
use Rattle.mh_base.specs.declared.obj_ref.ObjRef.{ObjRef}
use Rattle.mh_model.specs.declared.config.Config.{Config}
use Rattle.mh_model.specs.Configuration.{has_keys, is_service, present}
use Rattle.mh_model.specs.Reference.{same_ref}
use Rattle.mh_model.specs.Service.{Service}
use Rattle.mh_laws.specs.Flow.{has as is_held, reached}
use Rattle.mh_laws.specs.Least.{Derived, IsLeast, Held, Reached}
use Rattle.mh_flow.specs.Constraints.{IsFit}
use Rattle.mh_flow.specs.Rows.{has}
use Rattle.mh_flow.specs.Sets as sets
use Rattle.mh_flow.specs.declared.chart.Bases.{Bases}
use Rattle.mh_flow.specs.Chart.{Chart, IsChart, member_of, node_of}
use Rattle.mh_flow.specs.Opening.{by_variable, system_of}
use Rattle.mh_flow.specs.Solved.{flow_of, is_holder_in}

-- what is opened is within bounds
abbrev pub NumbersFit : Type 0
NumbersFit = (v : Service) (ch : Chart) → IsChart v ch → IsFit (system_of v ch)

-- the flow that least rows say is the least
abbrev pub RowsAreLeast : Type 0
RowsAreLeast =
    (v : Service) (ch : Chart) (rows : List (List Bool)) → IsChart v ch → sets.IsLeast (system_of v ch) rows →
    IsLeast v (flow_of v ch rows)

-- the reference is held, by numbers: the set of the object has it
pub record IsHeldAt (v : Service) (ch : Chart) (rows : List (List Bool)) (c : Config) (r q : ObjRef) : Type 0 where
  pub node : ℕ
  pub is_node : node_of v ch c r ≡ Some node
  pub member : ℕ
  pub is_member : member_of ch q ≡ Some member
  pub has : has rows node member ≡ true

-- what is derived to be held is held by numbers
abbrev pub DerivedIsHeld : Type 0
DerivedIsHeld =
    (v : Service) (ch : Chart) (rows : List (List Bool)) (c : Config) (r q : ObjRef) → IsChart v ch →
    sets.IsLeast (system_of v ch) rows → Derived v (Held c r q) → IsHeldAt v ch rows c r q

-- and nothing else is
abbrev pub HeldIsDerived : Type 0
HeldIsDerived =
    (v : Service) (ch : Chart) (rows : List (List Bool)) (c : Config) (r q : ObjRef) (u m : ℕ) → IsChart v ch →
    sets.IsLeast (system_of v ch) rows → node_of v ch c r ≡ Some u → member_of ch q ≡ Some m →
    has rows u m ≡ true → Derived v (Held c r q)

-- whether it is held, by numbers
abbrev pub is_held_at : Service → Chart → List (List Bool) → Config → ObjRef → ObjRef → Bool
is_held_at v ch rows c r q =
    option_map_or (λ u. option_map_or (has rows u) (member_of ch q) false) (node_of v ch c r) false

abbrev pub HeldExactly : Type 0
HeldExactly =
    (v : Service) (ch : Chart) (rows : List (List Bool)) (c : Config) (r q : ObjRef) → IsChart v ch →
    sets.IsLeast (system_of v ch) rows → (is_held_at v ch rows c r q ≡ true) ↔ Derived v (Held c r q)

-- what holds a reference is a variable of references or a list, and is present
abbrev pub HoldersHold : Type 0
HoldersHold =
    (v : Service) (c : Config) (r q : ObjRef) → is_service v ≡ true → has_keys v ≡ true → Derived v (Held c r q) →
    is_holder_in (present v c) r ≡ true

-- so the flow has what is derived
abbrev pub DerivedIsInFlow : Type 0
DerivedIsInFlow =
    (v : Service) (ch : Chart) (rows : List (List Bool)) (c : Config) (r q : ObjRef) → IsChart v ch →
    sets.IsLeast (system_of v ch) rows → Derived v (Held c r q) → is_held ((flow_of v ch rows).sets c) r q ≡ true

abbrev pub DerivedIsReached : Type 0
DerivedIsReached =
    (v : Service) (ch : Chart) (rows : List (List Bool)) (c : Config) → IsChart v ch →
    sets.IsLeast (system_of v ch) rows → Derived v (Reached c) → reached (flow_of v ch rows) c ≡ true

-- a variable through which no action has its target opens nothing
abbrev pub UntargetedOpensNothing : Type 0
UntargetedOpensNothing =
    (v : Service) (ch : Chart) (k : ℕ) (c : Config) (b : Bases) (w : ObjRef) (r : Option ObjRef) → IsChart v ch →
    list_any (same_ref w) ch.targeted ≡ false → by_variable v ch k c b w r ≡ []
