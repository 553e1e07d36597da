-- The objects of an application and those of a scene as one list.
use Rattle.std.proofs.Common.{◌≡◌, Bool, true, false, ◌||◌, if◌then◌else◌, cond, List, [], ◌∷◌, Option, Some, None, Result, Ok, Err, OnOk, OnErr, refl, ap, sym, ◌∙◌}
use Rattle.std.specs.List.{list_any}
use Rattle.std.specs.Option.{is_some, option_or}
use Rattle.std.proofs.lemmas.List.Folds.{find-append}
use Rattle.mh_base.specs.declared.obj_ref.ObjRef.{ObjRef}
use Rattle.mh_base.specs.declared.value.Value.{Value}
use Rattle.mh_model.specs.declared.edit.Edit.{Edit}
use Rattle.mh_model.specs.declared.object.Body.{Body}
use Rattle.mh_model.specs.declared.object.Fixed.{Fixed}
use Rattle.mh_model.specs.declared.object.Object.{Object}
use Rattle.mh_model.specs.Bodies.{given}
use Rattle.mh_model.specs.Edits.{edited}
use Rattle.mh_model.specs.First.{change_first}
use Rattle.mh_model.specs.Rules.{is_at, on_body, changed_in, changed}
use Rattle.mh_model.specs.Service.{object_at, parts}
use Rattle.mh_model.specs.State.{Objects, all}
use Rattle.mh_model.proofs.PartLemmas.{changed-own, changed-others}
use Rattle.mh_store.specs.Placing.{renewed, renewed_in}
use Rattle.mh_store.specs.Trying.{left_over}

-- the application's objects hide those of the scene
pub object_at-all : (r : ObjRef) (os : Objects) → object_at r (all os) ≡ option_or (object_at r os.application) (object_at r os.scene)
object_at-all r os = find-append (is_at r) os.application os.scene

pub found_first : (r : ObjRef) (os : Objects) (o : Object) → Some o ≡ object_at r os.application → Some o ≡ object_at r (all os)
found_first r os o first = rw (object_at-all r os, ← first) refl

pub found_behind : (r : ObjRef) (os : Objects) (x : Option Object) → None ≡ object_at r os.application → x ≡ object_at r os.scene → x ≡ object_at r (all os)
found_behind r os x none behind = rw (object_at-all r os, ← none) behind

-- the test of a change says whether an object is found
pub list_any-object_at : (r : ObjRef) (os : List Object) → list_any (is_at r) os ≡ is_some (object_at r os)
list_any-object_at r [] = refl
list_any-object_at r (o ∷ os) = by (is_at r o) (list_any-object_at r os)
  where
    by : (t : Bool) → list_any (is_at r) os ≡ is_some (object_at r os) → (t || list_any (is_at r) os) ≡ is_some (cond t (Some o) (object_at r os))
    by true below = refl
    by false below = below

-- where no object is at the reference nothing is changed
pub change_first-nowhere : (f : Object → Object) (r : ObjRef) (os : List Object) → list_any (is_at r) os ≡ false → os ≡ change_first (is_at r) f os
change_first-nowhere f r [] none = refl
change_first-nowhere f r (o ∷ os) none = by (is_at r o) (change_first-nowhere f r os) none
  where
    by : (t : Bool) → (list_any (is_at r) os ≡ false → os ≡ change_first (is_at r) f os) → (t || list_any (is_at r) os) ≡ false → o ∷ os ≡ (if t then f o ∷ os else o ∷ change_first (is_at r) f os)
    by true below h = absurd cc
    by false below h = ap (λ (t : List Object). o ∷ t) (below h)

pub changed_in-nowhere : (f : Fixed → Body → Body) (r : ObjRef) (os : List Object) → object_at r os ≡ None → os ≡ changed_in f r os
changed_in-nowhere f r os none = change_first-nowhere (on_body f) r os (list_any-object_at r os ∙ ap is_some none)

-- the objects with the one at this reference made another
abbrev pub done_at : (Object → Object) → ObjRef → Objects → Objects
done_at f r os =
    if list_any (is_at r) os.application then record os { application = change_first (is_at r) f os.application }
    else record os { scene = change_first (is_at r) f os.scene }

-- it was the application's
done-first : (f : Object → Object) (r : ObjRef) (os : Objects) (own : List Object) → is_some (object_at r os.application) ≡ true → own ≡ change_first (is_at r) f os.application → record os { application = own } ≡ done_at f r os
done-first f r os own there is = by (list_any (is_at r) os.application) (list_any-object_at r os.application ∙ there)
  where
    by : (t : Bool) → t ≡ true → record os { application = own } ≡ (if t then record os { application = change_first (is_at r) f os.application } else record os { scene = change_first (is_at r) f os.scene })
    by true h = rw is refl
    by false h = absurd cc

-- the application had no such object, so the scene was tried
done-behind : (f : Object → Object) (r : ObjRef) (os : Objects) (own others : List Object) → object_at r os.application ≡ None → own ≡ change_first (is_at r) f os.application → others ≡ change_first (is_at r) f os.scene → record { application = own; scene = others } ≡ done_at f r os
done-behind f r os own others none is behind = by (list_any (is_at r) os.application) nowhere
  where
    nowhere : list_any (is_at r) os.application ≡ false
    nowhere = list_any-object_at r os.application ∙ ap is_some none

    by : (t : Bool) → t ≡ false → record { application = own; scene = others } ≡ (if t then record os { application = change_first (is_at r) f os.application } else record os { scene = change_first (is_at r) f os.scene })
    by true h = absurd cc
    by false h =
        let kept : own ≡ os.application = is ∙ sym (change_first-nowhere f r os.application nowhere) in
        rw (kept, behind) refl

pub changed-first : (f : Fixed → Body → Body) (r : ObjRef) (os : Objects) (own : List Object) → is_some (object_at r os.application) ≡ true → own ≡ changed_in f r os.application → record os { application = own } ≡ changed f r os
changed-first f r os own there is = done-first (on_body f) r os own there is

pub changed-behind : (f : Fixed → Body → Body) (r : ObjRef) (os : Objects) (own others : List Object) → object_at r os.application ≡ None → own ≡ changed_in f r os.application → others ≡ changed_in f r os.scene → record { application = own; scene = others } ≡ changed f r os
changed-behind f r os own others none is behind = done-behind (on_body f) r os own others none is behind

-- What came of a change

pub taken-there : {X : Type 0} (x : X) (m : Option Object) → None ≡ left_over x m → is_some m ≡ true
taken-there x None is = absurd cc
taken-there x (Some o) is = refl

pub back-nowhere : {X : Type 0} (x back : X) (m : Option Object) → Some back ≡ left_over x m → (m ≡ None) × (back ≡ x)
back-nowhere x back None is = (refl, cc)
back-nowhere x back (Some o) is = absurd cc

-- Both tried, one after the other

-- what an edit promises of the objects as they were, and of what became of them
pub record IsEdited {T E : Type 0} (e : Edit) (r : ObjRef) (os after : Objects) (answer : Result T E) : Type 0 where
  pub done : OnOk answer (after ≡ changed (edited e) r os)
  pub own : parts after.application ≡ parts os.application
  pub others : parts after.scene ≡ parts os.scene
  pub kept : OnErr answer (after ≡ os)

-- each part of it, where the change was carried out
pub changed-edited : {T E : Type 0} (e : Edit) (r : ObjRef) (os after : Objects) (x : T) → after ≡ changed (edited e) r os → IsEdited {E = E} e r os after (Ok x)
changed-edited e r os after x is = record {
  done = is;
  own = ap (λ (x : Objects). parts x.application) is ∙ changed-own (edited e) r os;
  others = ap (λ (x : Objects). parts x.scene) is ∙ changed-others (edited e) r os;
  kept = tt;
}

pub edited-first : {T E : Type 0} (e : Edit) (r : ObjRef) (os : Objects) (own : List Object) (x : T) → None ≡ left_over e (object_at r os.application) → own ≡ changed_in (edited e) r os.application → IsEdited {E = E} e r os (record os { application = own }) (Ok x)
edited-first e r os own x taken is = changed-edited e r os (record os { application = own }) x (changed-first (edited e) r os own (taken-there e (object_at r os.application) taken) is)

pub edited-behind : {T E : Type 0} (answer : Result T E) (e back : Edit) (r : ObjRef) (os : Objects) (own others : List Object) → Some back ≡ left_over e (object_at r os.application) → own ≡ changed_in (edited e) r os.application → OnOk answer (others ≡ changed_in (edited back) r os.scene) → OnErr answer (others ≡ os.scene) → IsEdited e r os (record { application = own; scene = others }) answer
edited-behind (Ok x) e back r os own others came is behind kept =
    let left = back-nowhere e back (object_at r os.application) came in
    let there : others ≡ changed_in (edited e) r os.scene = behind ∙ ap (λ (x : Edit). changed_in (edited x) r os.scene) left.1 in
    changed-edited e r os (record { application = own; scene = others }) x (changed-behind (edited e) r os own others left.0 is there)
edited-behind (Err why) e back r os own others came is behind kept =
    let left = back-nowhere e back (object_at r os.application) came in
    let same : own ≡ os.application = is ∙ sym (changed_in-nowhere (edited e) r os.application left.0) in
    record {
      done = tt;
      own = ap parts same;
      others = ap parts kept;
      kept = λ i. record { application = same i; scene = kept i };
    }

-- and of a value that is given, which cannot be refused

pub given-first : (v : Value) (r : ObjRef) (os : Objects) (own : List Object) → None ≡ left_over v (object_at r os.application) → own ≡ changed_in (λ _ b. given v b) r os.application → record os { application = own } ≡ changed (λ _ b. given v b) r os
given-first v r os own taken is = changed-first (λ _ b. given v b) r os own (taken-there v (object_at r os.application) taken) is

pub given-behind : (v back : Value) (r : ObjRef) (os : Objects) (own others : List Object) → Some back ≡ left_over v (object_at r os.application) → own ≡ changed_in (λ _ b. given v b) r os.application → others ≡ changed_in (λ _ b. given back b) r os.scene → record { application = own; scene = others } ≡ changed (λ _ b. given v b) r os
given-behind v back r os own others came is behind =
    let left = back-nowhere v back (object_at r os.application) came in
    let there : others ≡ changed_in (λ _ b. given v b) r os.scene = behind ∙ ap (λ (x : Value). changed_in (λ _ b. given x b) r os.scene) left.1 in
    changed-behind (λ _ b. given v b) r os own others left.0 is there

-- and of an object that is put where the one with its reference is

pub renewed-first : (o : Object) (os : Objects) (own : List Object) → None ≡ left_over o (object_at o.fixed.key os.application) → own ≡ renewed_in o os.application → record os { application = own } ≡ renewed o os
renewed-first o os own taken is = done-first (λ _. o) o.fixed.key os own (taken-there o (object_at o.fixed.key os.application) taken) is

pub renewed-behind : (o back : Object) (os : Objects) (own others : List Object) → Some back ≡ left_over o (object_at o.fixed.key os.application) → own ≡ renewed_in o os.application → others ≡ renewed_in back os.scene → record { application = own; scene = others } ≡ renewed o os
renewed-behind o back os own others came is behind =
    let left = back-nowhere o back (object_at o.fixed.key os.application) came in
    let there : others ≡ renewed_in o os.scene = behind ∙ ap (λ (x : Object). renewed_in x os.scene) left.1 in
    done-behind (λ _. o) o.fixed.key os own others left.0 is there
