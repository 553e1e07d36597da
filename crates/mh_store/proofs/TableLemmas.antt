-- A table of the objects of one group against the list of them.
use Rattle.std.proofs.Common.{Option, ◌≡◌, ℕ, Bool, true, false, ◌&&◌, not, cond, if◌then◌else◌, List, [], ◌∷◌, Some, None, Result, Ok, Err, OnOk, OnErr, IfOk, refl, ap, sym, subst, ◌∙◌}
use Rattle.std.specs.Prelude.{nat_eq}
use Rattle.std.specs.Map.{lookup, set_value}
use Rattle.std.specs.Str.{bytes_eq}
use Rattle.mh_base.specs.declared.obj_ref.ObjRef.{ObjRef}
use Rattle.mh_model.specs.declared.edit.Edit.{Edit}
use Rattle.mh_model.specs.declared.object.Body.{Body}
use Rattle.mh_model.specs.declared.object.Fixed.{Fixed}
use Rattle.mh_model.specs.declared.object.Object.{Object}
use Rattle.mh_model.specs.First.{change_first}
use Rattle.mh_model.specs.Rules.{is_at, on_body, changed_in}
use Rattle.mh_model.specs.Service.{object_at}
use Rattle.mh_model.specs.Reference.{same_ref}
use Rattle.mh_model.proofs.ServiceLemmas.{same_ref-same}
use Rattle.mh_store.specs.Placing.{renewed_in}
use Rattle.mh_store.specs.Table.{IsKeyed, objects_of, key_of, with_body, changed_at}
use Rattle.mh_store.specs.Trying.{left_over}

-- What is written back under a number

pub set_value-found : (f : Fixed → Body → Body) (n : ℕ) (es : List (ℕ × Object)) (o : Object) → Some o ≡ lookup (nat_eq n) es → set_value (nat_eq n) es (with_body f o) ≡ changed_at f n es
set_value-found f n [] o is = refl
set_value-found f n (e ∷ es) o is = by (nat_eq n e.0) (set_value-found f n es o) is
  where
    by : (t : Bool) → (Some o ≡ lookup (nat_eq n) es → set_value (nat_eq n) es (with_body f o) ≡ changed_at f n es) → Some o ≡ cond t (Some e.1) (lookup (nat_eq n) es) → cond t ((e.0, with_body f o) ∷ es) (e ∷ set_value (nat_eq n) es (with_body f o)) ≡ (if t then (e.0, with_body f e.1) ∷ es else e ∷ changed_at f n es)
    by true below same =
        let it : o ≡ e.1 = cc in
        ap (λ (x : Object). (e.0, with_body f x) ∷ es) it
    by false below same = ap (λ (t : List (ℕ × Object)). e ∷ t) (below same)

pub none-under : (f : Fixed → Body → Body) (n : ℕ) (es : List (ℕ × Object)) → None ≡ lookup (nat_eq n) es → es ≡ changed_at f n es
none-under f n [] is = refl
none-under f n (e ∷ es) is = by (nat_eq n e.0) (none-under f n es) is
  where
    by : (t : Bool) → (None ≡ lookup (nat_eq n) es → es ≡ changed_at f n es) → None ≡ cond t (Some e.1) (lookup (nat_eq n) es) → e ∷ es ≡ (if t then (e.0, with_body f e.1) ∷ es else e ∷ changed_at f n es)
    by true below same = absurd cc
    by false below same = ap (λ (t : List (ℕ × Object)). e ∷ t) (below same)

-- a change of a body keeps each object under its number
pub keyed-changed : (f : Fixed → Body → Body) (n : ℕ) (g : List ℕ) (es : List (ℕ × Object)) → IsKeyed g es → IsKeyed g (changed_at f n es)
keyed-changed f n g [] keyed = tt
keyed-changed f n g (e ∷ es) keyed = by (nat_eq n e.0) (keyed-changed f n g es keyed.1)
  where
    by : (t : Bool) → IsKeyed g (changed_at f n es) → IsKeyed g (if t then (e.0, with_body f e.1) ∷ es else e ∷ changed_at f n es)
    by true below = keyed
    by false below = (keyed.0, below)

-- a test by `!=`, as it came out
pub is_other : (b : Bool) → true ≡ not b → b ≡ false
is_other true h = absurd cc
is_other false h = refl

pub is_own : (b : Bool) → false ≡ not b → b ≡ true
is_own true h = refl
is_own false h = absurd cc

-- What a reference leads to: where it names the group, what stands under its number

is_at-keyed : (r : ObjRef) (g : List ℕ) (e : ℕ × Object) → e.1.fixed.key ≡ key_of g e.0 → is_at r e.1 ≡ (bytes_eq r.group g && nat_eq r.number e.0)
is_at-keyed r g e keyed = ap (same_ref r) keyed

pub lookup-object_at : (r : ObjRef) (g : List ℕ) (es : List (ℕ × Object)) → bytes_eq r.group g ≡ true → IsKeyed g es → lookup (nat_eq r.number) es ≡ object_at r (objects_of es)
lookup-object_at r g [] own keyed = refl
lookup-object_at r g (e ∷ es) own keyed = rw (is_at-keyed r g e keyed.0, own, lookup-object_at r g es own keyed.1) refl

pub changed_at-changed_in : (f : Fixed → Body → Body) (r : ObjRef) (g : List ℕ) (es : List (ℕ × Object)) → bytes_eq r.group g ≡ true → IsKeyed g es → objects_of (changed_at f r.number es) ≡ changed_in f r (objects_of es)
changed_at-changed_in f r g [] own keyed = refl
changed_at-changed_in f r g (e ∷ es) own keyed = rw (is_at-keyed r g e keyed.0, own) (by (nat_eq r.number e.0) (changed_at-changed_in f r g es own keyed.1))
  where
    by : (t : Bool) → objects_of (changed_at f r.number es) ≡ changed_in f r (objects_of es) → objects_of (if t then (e.0, with_body f e.1) ∷ es else e ∷ changed_at f r.number es) ≡ (if t then on_body f e.1 ∷ objects_of es else e.1 ∷ changed_in f r (objects_of es))
    by true below = refl
    by false below = ap (λ (t : List Object). e.1 ∷ t) below

-- a reference that names another group leads nowhere
pub object_at-elsewhere : (r : ObjRef) (g : List ℕ) (es : List (ℕ × Object)) → bytes_eq r.group g ≡ false → IsKeyed g es → None ≡ object_at r (objects_of es)
object_at-elsewhere r g [] other keyed = refl
object_at-elsewhere r g (e ∷ es) other keyed = rw (is_at-keyed r g e keyed.0, other) (object_at-elsewhere r g es other keyed.1)

pub change_first-elsewhere : (f : Object → Object) (r : ObjRef) (g : List ℕ) (es : List (ℕ × Object)) → bytes_eq r.group g ≡ false → IsKeyed g es → objects_of es ≡ change_first (is_at r) f (objects_of es)
change_first-elsewhere f r g [] other keyed = refl
change_first-elsewhere f r g (e ∷ es) other keyed = rw (is_at-keyed r g e keyed.0, other) (ap (λ (t : List Object). e.1 ∷ t) (change_first-elsewhere f r g es other keyed.1))

pub changed_in-elsewhere : (f : Fixed → Body → Body) (r : ObjRef) (g : List ℕ) (es : List (ℕ × Object)) → bytes_eq r.group g ≡ false → IsKeyed g es → objects_of es ≡ changed_in f r (objects_of es)
changed_in-elsewhere f r g es other keyed = change_first-elsewhere (on_body f) r g es other keyed

-- What is put where the object with its reference is

pub set_value-none : (n : ℕ) (es : List (ℕ × Object)) (o : Object) → None ≡ lookup (nat_eq n) es → es ≡ set_value (nat_eq n) es o
set_value-none n [] o none = refl
set_value-none n (e ∷ es) o none = by (nat_eq n e.0) (set_value-none n es o) none
  where
    by : (t : Bool) → (None ≡ lookup (nat_eq n) es → es ≡ set_value (nat_eq n) es o) → None ≡ cond t (Some e.1) (lookup (nat_eq n) es) → e ∷ es ≡ cond t ((e.0, o) ∷ es) (e ∷ set_value (nat_eq n) es o)
    by true below h = absurd cc
    by false below h = ap (λ (t : List (ℕ × Object)). e ∷ t) (below h)

pub set_value-renewed_in : (o : Object) (g : List ℕ) (es : List (ℕ × Object)) → bytes_eq o.fixed.key.group g ≡ true → IsKeyed g es → objects_of (set_value (nat_eq o.fixed.key.number) es o) ≡ renewed_in o (objects_of es)
set_value-renewed_in o g [] own keyed = refl
set_value-renewed_in o g (e ∷ es) own keyed = rw (is_at-keyed o.fixed.key g e keyed.0, own) (by (nat_eq o.fixed.key.number e.0) (set_value-renewed_in o g es own keyed.1))
  where
    by : (t : Bool) → objects_of (set_value (nat_eq o.fixed.key.number) es o) ≡ renewed_in o (objects_of es) → objects_of (cond t ((e.0, o) ∷ es) (e ∷ set_value (nat_eq o.fixed.key.number) es o)) ≡ (if t then o ∷ objects_of es else e.1 ∷ renewed_in o (objects_of es))
    by true below = refl
    by false below = ap (λ (t : List Object). e.1 ∷ t) below

-- it stands under its own number
pub keyed-renewed : (o : Object) (g : List ℕ) (es : List (ℕ × Object)) → bytes_eq o.fixed.key.group g ≡ true → IsKeyed g es → IsKeyed g (set_value (nat_eq o.fixed.key.number) es o)
keyed-renewed o g [] own keyed = tt
keyed-renewed o g (e ∷ es) own keyed = by (nat_eq o.fixed.key.number e.0) refl (keyed-renewed o g es own keyed.1)
  where
    by : (t : Bool) → nat_eq o.fixed.key.number e.0 ≡ t → IsKeyed g (set_value (nat_eq o.fixed.key.number) es o) → IsKeyed g (cond t ((e.0, o) ∷ es) (e ∷ set_value (nat_eq o.fixed.key.number) es o))
    by true same below = (same_ref-same o.fixed.key (key_of g e.0) (rw (own, same) refl), keyed.1)
    by false other below = (keyed.0, below)

-- A change that may be refused memory

pub on_error : {T E : Type 0} {X : Type 0} (answer : Result T E) → X → OnErr answer X
on_error (Ok x) h = tt
on_error (Err y) h = h

pub keyed-tried : {T E : Type 0} (answer : Result T E) (f : Fixed → Body → Body) (n : ℕ) (g : List ℕ) (es after : List (ℕ × Object)) → OnOk answer (after ≡ changed_at f n es) → OnErr answer (after ≡ es) → IsKeyed g es → IsKeyed g after
keyed-tried (Ok x) f n g es after done kept keyed = subst (IsKeyed g) (sym done) (keyed-changed f n g es keyed)
keyed-tried (Err y) f n g es after done kept keyed = subst (IsKeyed g) (sym kept) keyed

pub done-tried : {T E : Type 0} (answer : Result T E) (f : Fixed → Body → Body) (r : ObjRef) (g : List ℕ) (es after : List (ℕ × Object)) → bytes_eq r.group g ≡ true → IsKeyed g es → OnOk answer (after ≡ changed_at f r.number es) → OnOk answer (objects_of after ≡ changed_in f r (objects_of es))
done-tried (Ok x) f r g es after own keyed done = ap objects_of done ∙ changed_at-changed_in f r g es own keyed
done-tried (Err y) f r g es after own keyed done = done

pub back-tried : {E : Type 0} (answer : Result (Option Edit) E) (e : Edit) (r : ObjRef) (g : List ℕ) (es : List (ℕ × Object)) → bytes_eq r.group g ≡ true → IsKeyed g es → IfOk answer (λ back. back ≡ left_over e (lookup (nat_eq r.number) es)) → IfOk answer (λ back. back ≡ left_over e (object_at r (objects_of es)))
back-tried (Ok x) e r g es own keyed back = back ∙ ap (left_over e) (lookup-object_at r g es own keyed)
back-tried (Err y) e r g es own keyed back = back
