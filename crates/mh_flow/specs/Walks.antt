-- The actions that go on from where their targets come to, by the variable through which they have them.
use Rattle.std.specs.Prelude.{◌≡◌, ℕ, Bool, if◌then◌else◌, List, [], ◌∷◌, length, slice_get, unwrap_or, Some}
use Rattle.std.specs.List.{flat_map, list_any}
use Rattle.std.specs.Map.{lookup}
use Rattle.mh_base.specs.declared.obj_ref.ObjRef.{ObjRef}
use Rattle.mh_model.specs.declared.act.Act.{Act}
use Rattle.mh_model.specs.declared.object.Fixed.{Fixed}
use Rattle.mh_model.specs.Effects.{actions}
use Rattle.mh_model.specs.Reference.{same_key}
use Rattle.mh_model.specs.Service.{Service}
use Rattle.mh_flow.specs.Chart.{targeted_by}

-- an action, and the object whose effect has it
pub record Walk : Type 0 where
  pub part : Fixed
  pub act : Act

-- the action goes on through the variable
abbrev pub goes_through : ObjRef → Act → Bool
goes_through w a = list_any (λ x. same_key x w) (targeted_by a)

abbrev pub walk_if : ObjRef → Fixed → Act → List Walk
walk_if w p a = if goes_through w a then record { part = p; act = a } ∷ [] else []

-- those of an object, and of these objects, in written order

abbrev pub walks_of : ObjRef → Fixed → List Walk
walks_of w p = flat_map (walk_if w p) (actions p)

abbrev pub walks : ObjRef → List Fixed → List Walk
walks w ps = flat_map (walks_of w) ps

-- Tables

-- what stands under the variable
abbrev pub listed : ObjRef → List (ObjRef × List Walk) → List Walk
listed w es = unwrap_or (lookup (same_key w) es) []

-- under each variable stand those of these objects that go on through it
abbrev pub IsTableOf : List Fixed → List (ObjRef × List Walk) → Type 0
IsTableOf ps es = (w : ObjRef) → listed w es ≡ walks w ps

-- a table for each of so many groups of the service
pub record AreTablesOf (v : Service) (n : ℕ) (ts : List (List (ObjRef × List Walk))) : Type 0 where
  pub count : length ts ≡ n
  pub each : (m : ℕ) (g : List ℕ × List Fixed) (t : List (ObjRef × List Walk)) → slice_get v.groups m ≡ Some g → slice_get ts m ≡ Some t → IsTableOf g.1 t

-- for all of them
abbrev pub AreTables : Service → List (List (ObjRef × List Walk)) → Type 0
AreTables v ts = AreTablesOf v (length v.groups) ts
