-- What is changed of an object, and placed with it.
use Rattle.std.specs.Prelude.{◌≡◌, ℕ, suc, ◌==◌, length, Bool, true, false, if◌then◌else◌, List, [], ◌∷◌, Option, Some, None, refl}
use Rattle.std.proofs.Common.{ap, ◌∙◌, sym, inl, inr}
use Rattle.std.proofs.lemmas.Bool.Decides.{eqb_tells}
use Rattle.mh_base.specs.declared.obj_ref.ObjRef.{ObjRef}
use Rattle.mh_group.specs.declared.class.Class.{Class}
use Rattle.mh_group.specs.declared.class.Class.TheVariants as class
use Rattle.mh_group.specs.declared.written.Position.{Position}
use Rattle.mh_group.specs.Table.{is_visible}
use Rattle.mh_model.specs.declared.edit.Edit.{Edit}
use Rattle.mh_model.specs.declared.object.Object.{Object}
use Rattle.mh_model.specs.Edits.{edited}
use Rattle.mh_model.specs.Lifecycle.{is_visible_at, places_of, run_places}
use Rattle.mh_model.specs.Rules.{changed, all_placed}
use Rattle.mh_model.specs.Service.{object_at}
use Rattle.mh_model.specs.State.{Objects, all}
use Rattle.mh_widgets.specs.Does.{placed_with, placed_by}
use Rattle.mh_machine.specs.declared.plan.Change.TheVariants as change
use Rattle.mh_machine.specs.Plans.{changed_as, change_at, change_with, placed_unless}

unseen : (ps : List (ObjRef × Position)) → ps ≡ placed_by ps false
unseen [] = refl
unseen (p ∷ ps) = refl

some : (n : ℕ) → (suc n == 0) ≡ false
some n = elim (eqb_tells (suc n) 0) [
  | inl same ↦ absurd cc
  | inr other ↦ other.0
]

-- what an object places that cannot be seen is placed
pub placing : (r : ObjRef) (e : Edit) (ps : List (ObjRef × Position)) (os : Objects) → ps ≡ placed_by ps (is_visible_at (object_at r (all os))) → changed_as (change_with r (Some e) ps) os ≡ all_placed ps (changed (edited e) r os)
placing r e [] os is = refl
placing r e (p ∷ ps) os is =
    ap (λ (b : Bool). changed_as (if b then change.Edit r e else change.Place r e (p ∷ ps)) os) (some (length ps))
    ∙ seen (is_visible_at (object_at r (all os))) is
  where
    seen : (b : Bool) → p ∷ ps ≡ (if b then [] else p ∷ ps) → placed_unless b (p ∷ ps) (changed (edited e) r os) ≡ all_placed (p ∷ ps) (changed (edited e) r os)
    seen true h = absurd cc
    seen false h = refl

pub placing_if : (r : ObjRef) (m : Option Edit) (ps : List (ObjRef × Position)) (os : Objects) → ps ≡ placed_with m ps → ps ≡ placed_by ps (is_visible_at (object_at r (all os))) → changed_as (change_with r m ps) os ≡ all_placed ps (changed_as (change_at r m) os)
placing_if r None ps os edit is = ap (λ (qs : List (ObjRef × Position)). all_placed qs os) (sym edit)
placing_if r (Some e) ps os edit is = placing r e ps os is

-- only a list places when it begins to run, and none can be seen

class_unseen : (c : Class) (o : Object) → places_of c o ≡ placed_by (places_of c o) (is_visible c)
class_unseen class.Application o = refl
class_unseen class.Scene o = refl
class_unseen class.Link o = refl
class_unseen class.BooleanVar o = refl
class_unseen class.IntegerVar o = refl
class_unseen class.OStringVar o = refl
class_unseen class.ObjectRefVar o = refl
class_unseen class.ContentRefVar o = refl
class_unseen class.Rectangle o = refl
class_unseen class.Text o = refl
class_unseen class.DynamicLineArt o = refl
class_unseen class.ListGroup o = unseen (places_of class.ListGroup o)
class_unseen class.TokenGroup o = refl
class_unseen class.EntryField o = refl
class_unseen class.PushButton o = refl
class_unseen class.ResidentPrg o = refl
class_unseen class.Stream o = refl

pub run_unseen : (m : Option Object) → run_places m ≡ placed_by (run_places m) (is_visible_at m)
run_unseen None = refl
run_unseen (Some o) = by o.body.running
  where
    by : (b : Bool) → (if b then [] else places_of o.fixed.class o) ≡ placed_by (if b then [] else places_of o.fixed.class o) (is_visible o.fixed.class)
    by true = refl
    by false = class_unseen o.fixed.class o
