-- Two groups of objects into which no reference leads at once.
use Rattle.std.proofs.Common.{◌≡◌, ℕ, Bool, true, false, ◌||◌, not, if◌then◌else◌, List, [], ◌∷◌, Option, Some, None, Result, Ok, Err, OnOk, OnErr, refl, ap, sym, ◌∙◌}
use Rattle.std.specs.List.{list_any}
use Rattle.std.specs.Option.{is_some}
use Rattle.std.specs.Str.{bytes_eq}
use Rattle.std.proofs.lemmas.Slice.Eq.{bytes_eq-Decides}
use Rattle.mh_base.specs.declared.obj_ref.ObjRef.{ObjRef}
use Rattle.mh_base.specs.declared.value.Value.{Value}
use Rattle.mh_model.specs.declared.edit.Edit.{Edit}
use Rattle.mh_model.specs.declared.object.Body.{Body}
use Rattle.mh_model.specs.declared.object.Fixed.{Fixed}
use Rattle.mh_model.specs.declared.object.Object.{Object}
use Rattle.mh_model.specs.Bodies.{given}
use Rattle.mh_model.specs.Edits.{edited}
use Rattle.mh_model.specs.Reference.{same_ref}
use Rattle.mh_model.specs.Rules.{is_at, on_body, changed_in, changed}
use Rattle.mh_model.specs.Service.{object_at, parts}
use Rattle.mh_model.specs.State.{Objects, all}
use Rattle.mh_model.proofs.PartLemmas.{changed-own, changed-others}
use Rattle.mh_model.proofs.ServiceLemmas.{same_ref-same}
use Rattle.mh_store.specs.Apart.{AreApart, AreOfOthers}
use Rattle.mh_store.specs.Placing.{renewed_in}
use Rattle.mh_store.specs.Table.{IsKeyed, objects_of}
use Rattle.mh_store.specs.Trying.{left_over}
use Rattle.mh_store.proofs.BothLemmas.{IsEdited, change_first-nowhere, changed-edited, back-nowhere, taken-there, list_any-object_at, found_behind}
use Rattle.mh_store.proofs.TableLemmas.{object_at-elsewhere}

-- What keeps them apart: whatever keeps what the objects are found by

there-parts : (r : ObjRef) (os : List Object) → list_any (is_at r) os ≡ list_any (λ (p : Fixed). same_ref r p.key) (parts os)
there-parts r [] = refl
there-parts r (o ∷ os) = ap (λ (b : Bool). same_ref r o.fixed.key || b) (there-parts r os)

there-same : (r : ObjRef) (own os : List Object) → parts own ≡ parts os → list_any (is_at r) own ≡ list_any (is_at r) os
there-same r own os same = there-parts r own ∙ ap (λ (x : List Fixed). list_any (λ (p : Fixed). same_ref r p.key) x) same ∙ sym (there-parts r os)

still_apart : (b : Bool) (os ps own others : List Object) → ((r : ObjRef) → list_any (is_at r) own ≡ list_any (is_at r) os) → ((r : ObjRef) → list_any (is_at r) others ≡ list_any (is_at r) ps) → AreApart b os ps → AreApart b own others
still_apart false os ps own others o p apart = tt
still_apart true os ps own others o p apart = λ r h. o r ∙ apart r (sym (p r) ∙ h)

pub parts_apart : (b : Bool) (os ps own others : List Object) → parts own ≡ parts os → parts others ≡ parts ps → AreApart b os ps → AreApart b own others
parts_apart b os ps own others o p apart = still_apart b os ps own others (λ r. there-same r own os o) (λ r. there-same r others ps p) apart

-- an object that is put where the one with its reference is
there-renewed : (o : Object) (r : ObjRef) (os : List Object) → list_any (is_at r) (renewed_in o os) ≡ list_any (is_at r) os
there-renewed o r [] = refl
there-renewed o r (x ∷ os) = by (is_at o.fixed.key x) refl (there-renewed o r os)
  where
    by : (t : Bool) → is_at o.fixed.key x ≡ t → list_any (is_at r) (renewed_in o os) ≡ list_any (is_at r) os → list_any (is_at r) (if t then o ∷ os else x ∷ renewed_in o os) ≡ (is_at r x || list_any (is_at r) os)
    by true same below = ap (λ (k : ObjRef). same_ref r k || list_any (is_at r) os) (same_ref-same o.fixed.key x.fixed.key same)
    by false other below = ap (λ (b : Bool). is_at r x || b) below

pub renewed_apart : (b : Bool) (o back : Object) (os ps own others : List Object) → own ≡ renewed_in o os → others ≡ renewed_in back ps → AreApart b os ps → AreApart b own others
renewed_apart b o back os ps own others o_is p_is apart =
    still_apart b os ps own others
    (λ r. ap (λ (x : List Object). list_any (is_at r) x) o_is ∙ there-renewed o r os)
    (λ r. ap (λ (x : List Object). list_any (is_at r) x) p_is ∙ there-renewed back r ps)
    apart

pub first_renewed_apart : (b : Bool) (o : Object) (os ps own : List Object) → own ≡ renewed_in o os → AreApart b os ps → AreApart b own ps
first_renewed_apart b o os ps own o_is apart =
    still_apart b os ps own ps (λ r. ap (λ (x : List Object). list_any (is_at r) x) o_is ∙ there-renewed o r os) (λ r. refl) apart

-- Groups of different names are apart

elsewhere : (r : ObjRef) (g : List ℕ) (es : List (ℕ × Object)) → bytes_eq r.group g ≡ false → IsKeyed g es → list_any (is_at r) (objects_of es) ≡ false
elsewhere r g es other keyed = list_any-object_at r (objects_of es) ∙ ap is_some (sym (object_at-elsewhere r g es other keyed))

its_group : (r : ObjRef) (g : List ℕ) (es : List (ℕ × Object)) → IsKeyed g es → list_any (is_at r) (objects_of es) ≡ true → r.group ≡ g
its_group r g es keyed there = by (bytes_eq r.group g) refl
  where
    by : (t : Bool) → bytes_eq r.group g ≡ t → r.group ≡ g
    by true same = (bytes_eq-Decides r.group g).0 same
    by false other =
        let nowhere = elsewhere r g es other keyed in
        absurd cc

pub names_apart : (b : Bool) (g h : List ℕ) (es fs : List (ℕ × Object)) → b ≡ not (bytes_eq g h) → IsKeyed g es → IsKeyed h fs → AreApart b (objects_of es) (objects_of fs)
names_apart false g h es fs is own others = tt
names_apart true g h es fs is own others = λ r there. by r (its_group r h fs others there) (bytes_eq r.group g) refl
  where
    by : (r : ObjRef) → r.group ≡ h → (t : Bool) → bytes_eq r.group g ≡ t → list_any (is_at r) (objects_of es) ≡ false
    by r named true same =
        let both : g ≡ h = sym ((bytes_eq-Decides r.group g).0 same) ∙ named in
        let equal = (bytes_eq-Decides g h).1 both in
        let other : true ≡ not true = is ∙ ap not equal in
        absurd cc
    by r named false other = elsewhere r g es other own

pub name_apart : (b : Bool) (g h : List ℕ) (es : List (ℕ × Object)) → b ≡ not (bytes_eq h g) → IsKeyed h es → AreOfOthers b g (objects_of es)
name_apart false g h es is keyed = tt
name_apart true g h es is keyed = λ r named. by r ((bytes_eq-Decides r.group g).0 named) (bytes_eq r.group h) refl
  where
    by : (r : ObjRef) → r.group ≡ g → (t : Bool) → bytes_eq r.group h ≡ t → object_at r (objects_of es) ≡ None
    by r named true same =
        let both : h ≡ g = sym ((bytes_eq-Decides r.group h).0 same) ∙ named in
        let equal = (bytes_eq-Decides h g).1 both in
        let other : true ≡ not true = is ∙ ap not equal in
        absurd cc
    by r named false other = sym (object_at-elsewhere r h es other keyed)

-- What is found in the second of two that are apart is found among all

none_there : (m : Option Object) → is_some m ≡ false → m ≡ None
none_there None h = refl
none_there (Some x) h = absurd cc

pub found_apart : (b : Bool) (r : ObjRef) (os : Objects) (o : Object) → b ≡ true → AreApart b os.application os.scene → Some o ≡ object_at r os.scene → Some o ≡ object_at r (all os)
found_apart false r os o is apart found = absurd cc
found_apart true r os o is apart found =
    let there : list_any (is_at r) os.scene ≡ true = list_any-object_at r os.scene ∙ ap is_some (sym found) in
    let nowhere : is_some (object_at r os.application) ≡ false = sym (list_any-object_at r os.application) ∙ apart r there in
    found_behind r os (Some o) (sym (none_there (object_at r os.application) nowhere)) found

-- Changes, where the second is tried first

-- it was there
pub changed_apart : (b : Bool) (f : Fixed → Body → Body) (r : ObjRef) (os : Objects) (others : List Object) → b ≡ true → AreApart b os.application os.scene → is_some (object_at r os.scene) ≡ true → others ≡ changed_in f r os.scene → record os { scene = others } ≡ changed f r os
changed_apart false f r os others true_is apart there is = absurd cc
changed_apart true f r os others true_is apart there is = by (list_any (is_at r) os.application) (apart r (list_any-object_at r os.scene ∙ there))
  where
    by : (t : Bool) → t ≡ false → record os { scene = others } ≡ (if t then record os { application = changed_in f r os.application } else record os { scene = changed_in f r os.scene })
    by true h = absurd cc
    by false h = ap (λ (x : List Object). record os { scene = x }) is

-- it was not there, so the first was tried
pub changed_own : (f : Fixed → Body → Body) (r : ObjRef) (os : Objects) (own others : List Object) → object_at r os.scene ≡ None → own ≡ changed_in f r os.application → others ≡ changed_in f r os.scene → record { application = own; scene = others } ≡ changed f r os
changed_own f r os own others none is behind = by (list_any (is_at r) os.application) refl
  where
    there : list_any (is_at r) os.scene ≡ false
    there = list_any-object_at r os.scene ∙ ap is_some none

    kept : others ≡ os.scene
    kept = behind ∙ sym (change_first-nowhere (on_body f) r os.scene there)

    by : (t : Bool) → list_any (is_at r) os.application ≡ t → record { application = own; scene = others } ≡ (if t then record os { application = changed_in f r os.application } else record os { scene = changed_in f r os.scene })
    by true h = λ i. record { application = is i; scene = kept i }
    by false h =
        let same : own ≡ os.application = is ∙ sym (change_first-nowhere (on_body f) r os.application h) in
        λ i. record { application = same i; scene = behind i }

pub edited_apart : {T E : Type 0} (b : Bool) (e : Edit) (r : ObjRef) (os : Objects) (others : List Object) (x : T) → b ≡ true → AreApart b os.application os.scene → None ≡ left_over e (object_at r os.scene) → others ≡ changed_in (edited e) r os.scene → IsEdited {E = E} e r os (record os { scene = others }) (Ok x)
edited_apart b e r os others x yes_is apart taken is = changed-edited e r os (record os { scene = others }) x (changed_apart b (edited e) r os others yes_is apart (taken-there e (object_at r os.scene) taken) is)

pub edited_own : {T E : Type 0} (answer : Result T E) (e back : Edit) (r : ObjRef) (os : Objects) (own others : List Object) → Some back ≡ left_over e (object_at r os.scene) → others ≡ changed_in (edited e) r os.scene → OnOk answer (own ≡ changed_in (edited back) r os.application) → OnErr answer (own ≡ os.application) → IsEdited e r os (record { application = own; scene = others }) answer
edited_own (Ok x) e back r os own others came is behind same =
    let left = back-nowhere e back (object_at r os.scene) came in
    let there : own ≡ changed_in (edited e) r os.application = behind ∙ ap (λ (x : Edit). changed_in (edited x) r os.application) left.1 in
    changed-edited e r os (record { application = own; scene = others }) x (changed_own (edited e) r os own others left.0 there is)
edited_own (Err why) e back r os own others came is behind same =
    let left = back-nowhere e back (object_at r os.scene) came in
    let there = list_any-object_at r os.scene ∙ ap is_some left.0 in
    let kept : others ≡ os.scene = is ∙ sym (change_first-nowhere (on_body (edited e)) r os.scene there) in
    record {
      done = tt;
      own = ap parts same;
      others = ap parts kept;
      kept = λ i. record { application = same i; scene = kept i };
    }

pub given_apart : (b : Bool) (v : Value) (r : ObjRef) (os : Objects) (others : List Object) → b ≡ true → AreApart b os.application os.scene → None ≡ left_over v (object_at r os.scene) → others ≡ changed_in (λ _ b. given v b) r os.scene → record os { scene = others } ≡ changed (λ _ b. given v b) r os
given_apart b v r os others yes_is apart taken is = changed_apart b (λ _ b. given v b) r os others yes_is apart (taken-there v (object_at r os.scene) taken) is

pub given_own : (v back : Value) (r : ObjRef) (os : Objects) (own others : List Object) → Some back ≡ left_over v (object_at r os.scene) → others ≡ changed_in (λ _ b. given v b) r os.scene → own ≡ changed_in (λ _ b. given back b) r os.application → record { application = own; scene = others } ≡ changed (λ _ b. given v b) r os
given_own v back r os own others came is behind =
    let left = back-nowhere v back (object_at r os.scene) came in
    let there : own ≡ changed_in (λ _ b. given v b) r os.application = behind ∙ ap (λ (x : Value). changed_in (λ _ b. given x b) r os.application) left.1 in
    changed_own (λ _ b. given v b) r os own others left.0 there is

-- What was changed is as much apart as before

pub apart_changed : (b : Bool) (f : Fixed → Body → Body) (r : ObjRef) (os after : Objects) → after ≡ changed f r os → AreApart b os.application os.scene → AreApart b after.application after.scene
apart_changed b f r os after is apart =
    parts_apart b os.application os.scene after.application after.scene
    (ap (λ (x : Objects). parts x.application) is ∙ changed-own f r os)
    (ap (λ (x : Objects). parts x.scene) is ∙ changed-others f r os)
    apart

pub edited_parts : {T E : Type 0} (answer : Result T E) (e : Edit) (r : ObjRef) (os after : Objects) → OnOk answer (after ≡ changed (edited e) r os) → OnErr answer (after ≡ os) → (parts after.application ≡ parts os.application) × (parts after.scene ≡ parts os.scene)
edited_parts (Ok x) e r os after done kept =
    (ap (λ (x : Objects). parts x.application) done ∙ changed-own (edited e) r os, ap (λ (x : Objects). parts x.scene) done ∙ changed-others (edited e) r os)
edited_parts (Err why) e r os after done kept = (ap (λ (x : Objects). parts x.application) kept, ap (λ (x : Objects). parts x.scene) kept)
