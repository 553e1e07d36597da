-- Visibles that were made ready one by one, of the objects as they were, against visibles that are placed one
-- after another. Both come to the same, since a place that is put over a place is what was put last.
use Rattle.std.proofs.Common.{◌≡◌, ◌||◌, Bool, true, false, if◌then◌else◌, cond, List, [], ◌∷◌, ◌++◌, map, Option, Some, None, refl, ap, sym, ◌∙◌}
use Rattle.std.specs.List.{list_any}
use Rattle.std.specs.Option.{is_some, option_or, option_map, option_map_or}
use Rattle.std.proofs.lemmas.List.{map-append}
use Rattle.mh_base.specs.declared.obj_ref.ObjRef.{ObjRef}
use Rattle.mh_group.specs.declared.attribute.Attribute.TheVariants as attribute
use Rattle.mh_group.specs.declared.written.Position.{Position}
use Rattle.mh_group.specs.Table.{is_visible}
use Rattle.mh_model.specs.declared.held.Held.TheVariants as of
use Rattle.mh_model.specs.declared.held.Property.{Property}
use Rattle.mh_model.specs.declared.object.Body.{Body}
use Rattle.mh_model.specs.declared.object.Fixed.{Fixed}
use Rattle.mh_model.specs.declared.object.Object.{Object}
use Rattle.mh_model.specs.Bodies.{put}
use Rattle.mh_model.specs.First.{change_first, put_first}
use Rattle.mh_model.specs.Property.{is_of}
use Rattle.mh_model.specs.Rules.{is_at, on_body, changed_in, changed, placed_at, all_placed}
use Rattle.mh_model.specs.Service.{object_at}
use Rattle.mh_model.specs.State.{Objects, all}
use Rattle.mh_model.proofs.ServiceLemmas.{same_ref-same}
use Rattle.mh_store.specs.Placing.{with_place, found_placed, ready_placed, renewed, all_renewed}
use Rattle.mh_store.proofs.BothLemmas.{object_at-all, list_any-object_at, done_at}

-- Placing over placing

put_first-put_first : {X : Type 0} (p : X → Bool) (y z : X) (xs : List X) → p z ≡ true → put_first p y (put_first p z xs) ≡ put_first p y xs
put_first-put_first p y z [] hit = rw hit refl
put_first-put_first {X} p y z (x ∷ xs) hit = by (p x) refl (put_first-put_first p y z xs hit)
  where
    by : (t : Bool) → p x ≡ t → put_first p y (put_first p z xs) ≡ put_first p y xs → put_first p y (if t then z ∷ xs else x ∷ put_first p z xs) ≡ (if t then y ∷ xs else x ∷ put_first p y xs)
    by true e below = rw hit refl
    by false e below = rw e (ap (λ (t : List X). x ∷ t) below)

abbrev moved : Bool → Position → Object → Object
moved t q o = record o { body = if t then put attribute.OrigPosition (of.Pair q.x q.y) o.body else o.body }

abbrev placing : Position → Property
placing q = record { attribute = attribute.OrigPosition; held = of.Pair q.x q.y }

with_place-with_place : (q r : Position) (o : Object) → with_place q (with_place r o) ≡ with_place q o
with_place-with_place q r o = by (is_visible o.fixed.class)
  where
    by : (t : Bool) → moved t q (moved t r o) ≡ moved t q o
    by true = ap (λ (ps : List Property). record o { body = record o.body { changes = ps } }) (put_first-put_first (is_of attribute.OrigPosition) (placing q) (placing r) o.body.changes refl)
    by false = refl

-- Objects that differ in places alone

record AlikePlaced (os before : Objects) : Type 0 where
  own : (q : Position) → map (with_place q) os.application ≡ map (with_place q) before.application
  others : (q : Position) → map (with_place q) os.scene ≡ map (with_place q) before.scene

alike-itself : (os : Objects) → AlikePlaced os os
alike-itself os = record { own = λ q. refl; others = λ q. refl }

placed-changed_in : (q p : Position) (r : ObjRef) (os : List Object) → map (with_place q) (changed_in (placed_at p) r os) ≡ map (with_place q) os
placed-changed_in q p r [] = refl
placed-changed_in q p r (o ∷ os) = by (is_at r o) (placed-changed_in q p r os)
  where
    by : (t : Bool) → map (with_place q) (changed_in (placed_at p) r os) ≡ map (with_place q) os → map (with_place q) (if t then with_place p o ∷ os else o ∷ changed_in (placed_at p) r os) ≡ with_place q o ∷ map (with_place q) os
    by true below = ap (λ (x : Object). x ∷ map (with_place q) os) (with_place-with_place q p o)
    by false below = ap (λ (t : List Object). with_place q o ∷ t) below

alike-changed : (p : Position) (r : ObjRef) (os before : Objects) → AlikePlaced os before → AlikePlaced (changed (placed_at p) r os) before
alike-changed p r os before alike = by (list_any (is_at r) os.application)
  where
    by : (t : Bool) → AlikePlaced (if t then record os { application = changed_in (placed_at p) r os.application } else record os { scene = changed_in (placed_at p) r os.scene }) before
    by true = record { own = λ q. placed-changed_in q p r os.application ∙ alike.own q; others = alike.others }
    by false = record { own = alike.own; others = λ q. placed-changed_in q p r os.scene ∙ alike.others q }

object_at-placed : (q : Position) (r : ObjRef) (os : List Object) → option_map (with_place q) (object_at r os) ≡ object_at r (map (with_place q) os)
object_at-placed q r [] = refl
object_at-placed q r (o ∷ os) = by (is_at r o) (object_at-placed q r os)
  where
    by : (t : Bool) → option_map (with_place q) (object_at r os) ≡ object_at r (map (with_place q) os) → option_map (with_place q) (cond t (Some o) (object_at r os)) ≡ cond t (Some (with_place q o)) (object_at r (map (with_place q) os))
    by true below = refl
    by false below = below

-- what is found in them is the same, once it is placed
alike-found : (q : Position) (r : ObjRef) (os before : Objects) → AlikePlaced os before → option_map (with_place q) (object_at r (all os)) ≡ option_map (with_place q) (object_at r (all before))
alike-found q r os before alike =
    let same : map (with_place q) (all os) ≡ map (with_place q) (all before) =
    map-append (with_place q) os.application os.scene
    ∙ (λ i. alike.own q i ++ alike.others q i)
    ∙ sym (map-append (with_place q) before.application before.scene) in
    object_at-placed q r (all os) ∙ ap (object_at r) same ∙ sym (object_at-placed q r (all before))

-- A change that leaves what it finds as it is

changed_in-same : (f : Fixed → Body → Body) (r : ObjRef) (os : List Object) → ((o : Object) → object_at r os ≡ Some o → on_body f o ≡ o) → changed_in f r os ≡ os
changed_in-same f r [] same = refl
changed_in-same f r (o ∷ os) same = by (is_at r o) (changed_in-same f r os) same
  where
    by : (t : Bool) → (((x : Object) → object_at r os ≡ Some x → on_body f x ≡ x) → changed_in f r os ≡ os) → ((x : Object) → cond t (Some o) (object_at r os) ≡ Some x → on_body f x ≡ x) → (if t then on_body f o ∷ os else o ∷ changed_in f r os) ≡ o ∷ os
    by true below h = ap (λ (x : Object). x ∷ os) (h o refl)
    by false below h = ap (λ (t : List Object). o ∷ t) (below h)

-- what is found among all, by where it is
found_in : (r : ObjRef) (os : Objects) (m : Option Object) (x : Option Object) → object_at r os.application ≡ m → option_or m (object_at r os.scene) ≡ x → object_at r (all os) ≡ x
found_in r os m x own is = object_at-all r os ∙ ap (λ (n : Option Object). option_or n (object_at r os.scene)) own ∙ is

changed-same : (f : Fixed → Body → Body) (r : ObjRef) (os : Objects) → ((o : Object) → object_at r (all os) ≡ Some o → on_body f o ≡ o) → changed f r os ≡ os
changed-same f r os same = by (list_any (is_at r) os.application) (object_at r os.application) refl (list_any-object_at r os.application)
  where
    by : (t : Bool) (m : Option Object) → object_at r os.application ≡ m → t ≡ is_some m → (if t then record os { application = changed_in f r os.application } else record os { scene = changed_in f r os.scene }) ≡ os
    by true None own h = absurd cc
    by true (Some x) own h = ap (λ (xs : List Object). record os { application = xs }) (changed_in-same f r os.application (λ o e. same o (found_in r os (Some x) (Some o) own (sym own ∙ e))))
    by false None own h = ap (λ (xs : List Object). record os { scene = xs }) (changed_in-same f r os.scene (λ o e. same o (found_in r os None (Some o) own e)))
    by false (Some x) own h = absurd cc

-- What was found, changed and put where it was is a change

found_at : (r : ObjRef) (os : List Object) (o : Object) → object_at r os ≡ Some o → is_at r o ≡ true
found_at r [] o e = absurd cc
found_at r (x ∷ os) o e = by (is_at r x) refl (found_at r os o) e
  where
    by : (t : Bool) → is_at r x ≡ t → (object_at r os ≡ Some o → is_at r o ≡ true) → cond t (Some x) (object_at r os) ≡ Some o → is_at r o ≡ true
    by true is below h =
        let it : x ≡ o = cc in
        ap (is_at r) (sym it) ∙ is
    by false is below h = below h

put-changed_in : (f : Fixed → Body → Body) (r : ObjRef) (os : List Object) (o : Object) → object_at r os ≡ Some o → change_first (is_at r) (λ _. on_body f o) os ≡ changed_in f r os
put-changed_in f r [] o e = refl
put-changed_in f r (x ∷ os) o e = by (is_at r x) (put-changed_in f r os o) e
  where
    by : (t : Bool) → (object_at r os ≡ Some o → change_first (is_at r) (λ _. on_body f o) os ≡ changed_in f r os) → cond t (Some x) (object_at r os) ≡ Some o → (if t then on_body f o ∷ os else x ∷ change_first (is_at r) (λ _. on_body f o) os) ≡ (if t then on_body f x ∷ os else x ∷ changed_in f r os)
    by true below h =
        let it : x ≡ o = cc in
        ap (λ (y : Object). on_body f y ∷ os) (sym it)
    by false below h = ap (λ (t : List Object). x ∷ t) (below h)

done_at-changed : (f : Fixed → Body → Body) (r : ObjRef) (os : Objects) (o : Object) → object_at r (all os) ≡ Some o → done_at (λ _. on_body f o) r os ≡ changed f r os
done_at-changed f r os o found = by (list_any (is_at r) os.application) (object_at r os.application) refl (list_any-object_at r os.application) (sym (object_at-all r os) ∙ found)
  where
    by : (t : Bool) (m : Option Object) → object_at r os.application ≡ m → t ≡ is_some m → option_or m (object_at r os.scene) ≡ Some o → (if t then record os { application = change_first (is_at r) (λ _. on_body f o) os.application } else record os { scene = change_first (is_at r) (λ _. on_body f o) os.scene }) ≡ (if t then record os { application = changed_in f r os.application } else record os { scene = changed_in f r os.scene })
    by true None own h is = absurd cc
    by true (Some x) own h is = ap (λ (xs : List Object). record os { application = xs }) (put-changed_in f r os.application o (own ∙ is))
    by false None own h is = ap (λ (xs : List Object). record os { scene = xs }) (put-changed_in f r os.scene o is)
    by false (Some x) own h is = absurd cc

renewed-changed : (f : Fixed → Body → Body) (r : ObjRef) (os : Objects) (o : Object) → object_at r (all os) ≡ Some o → renewed (on_body f o) os ≡ changed f r os
renewed-changed f r os o found =
    ap (λ (k : ObjRef). done_at (λ _. on_body f o) k os) (sym (same_ref-same r o.fixed.key (found_at r (all os) o found)))
    ∙ done_at-changed f r os o found

-- One that was made ready, of an object that differs in its place alone from the one that is there

unplaced : (q : Position) (o : Object) → is_visible o.fixed.class ≡ false → with_place q o ≡ o
unplaced q o h = rw h refl

mapped_some : {X Y : Type 0} (f : X → Y) (m : Option X) (y : Y) → option_map f m ≡ Some y → (x : X) × (m ≡ Some x) × (f x ≡ y)
mapped_some f None y h = absurd cc
mapped_some f (Some x) y h = (x, refl, cc)

one_renewed : (q : Position) (r : ObjRef) (os : Objects) (m : Option Object) → option_map (with_place q) (object_at r (all os)) ≡ option_map (with_place q) m → all_renewed (found_placed q m) os ≡ changed (placed_at q) r os
one_renewed q r os None same = sym (changed-same (placed_at q) r os (λ o found. never o (ap (option_map (with_place q)) (sym found) ∙ same)))
  where
    never : (o : Object) → Some (with_place q o) ≡ None → with_place q o ≡ o
    never o h = absurd cc
one_renewed q r os (Some o) same = by (is_visible o.fixed.class) refl
  where
    by : (t : Bool) → is_visible o.fixed.class ≡ t → all_renewed (if t then with_place q o ∷ [] else []) os ≡ changed (placed_at q) r os
    by true e =
        let hit = mapped_some (with_place q) (object_at r (all os)) (with_place q o) same in
        ap (λ (x : Object). renewed x os) (sym hit.2) ∙ renewed-changed (placed_at q) r os hit.0 hit.1
    by false e = sym (changed-same (placed_at q) r os (λ x found. unplaced q x (ap (λ (m : Option Object). option_map_or (λ (y : Object). is_visible y.fixed.class) m false) (ap (option_map (with_place q)) (sym found) ∙ same) ∙ e)))

all_renewed-append : (xs ys : List Object) (os : Objects) → all_renewed (xs ++ ys) os ≡ all_renewed ys (all_renewed xs os)
all_renewed-append [] ys os = refl
all_renewed-append (x ∷ xs) ys os = all_renewed-append xs ys (renewed x os)

-- All of them

all_renewed-alike : (ps : List (ObjRef × Position)) (os before : Objects) → AlikePlaced os before → all_renewed (ready_placed ps before) os ≡ all_placed ps os
all_renewed-alike [] os before alike = refl
all_renewed-alike (p ∷ ps) os before alike =
    all_renewed-append (found_placed p.1 (object_at p.0 (all before))) (ready_placed ps before) os
    ∙ ap (all_renewed (ready_placed ps before)) (one_renewed p.1 p.0 os (object_at p.0 (all before)) (alike-found p.1 p.0 os before alike))
    ∙ all_renewed-alike ps (changed (placed_at p.1) p.0 os) before (alike-changed p.1 p.0 os before alike)

-- what was made ready of the objects, put among them
pub renewed_made : (ps : List (ObjRef × Position)) (os after : Objects) (made : List Object) → made ≡ ready_placed ps os → after ≡ all_renewed made os → after ≡ all_placed ps os
renewed_made ps os after made is put = put ∙ ap (λ (xs : List Object). all_renewed xs os) is ∙ all_renewed-alike ps os os (alike-itself os)

-- A change of an object that is no visible is not seen by those that are made ready.

pub changed-both : (f : Fixed → Body → Body) (r : ObjRef) (os ps : List Object) → changed_in f r (os ++ ps) ≡ (if list_any (is_at r) os then changed_in f r os ++ ps else os ++ changed_in f r ps)
changed-both f r [] ps = refl
changed-both f r (o ∷ os) ps = by (is_at r o) (list_any (is_at r) os) (changed-both f r os ps)
  where
    by : (t u : Bool) → changed_in f r (os ++ ps) ≡ (if u then changed_in f r os ++ ps else os ++ changed_in f r ps) → (if t then on_body f o ∷ (os ++ ps) else o ∷ changed_in f r (os ++ ps)) ≡ (if t || u then (if t then on_body f o ∷ os else o ∷ changed_in f r os) ++ ps else o ∷ os ++ changed_in f r ps)
    by true u below = refl
    by false true below = ap (λ (t : List Object). o ∷ t) below
    by false false below = ap (λ (t : List Object). o ∷ t) below

pub all-changed : (f : Fixed → Body → Body) (r : ObjRef) (os : Objects) → all (changed f r os) ≡ changed_in f r (all os)
all-changed f r os = by (list_any (is_at r) os.application) ∙ sym (changed-both f r os.application os.scene)
  where
    by : (t : Bool) → all (if t then record os { application = changed_in f r os.application } else record os { scene = changed_in f r os.scene }) ≡ (if t then changed_in f r os.application ++ os.scene else os.application ++ changed_in f r os.scene)
    by true = refl
    by false = refl

invisible_changed : (f : Fixed → Body → Body) (at r : ObjRef) (q : Position) (os : List Object) → option_map_or (λ (o : Object). is_visible o.fixed.class) (object_at at os) false ≡ false → found_placed q (object_at r (changed_in f at os)) ≡ found_placed q (object_at r os)
invisible_changed f at r q [] none = refl
invisible_changed f at r q (o ∷ os) none = by (is_at at o) none (invisible_changed f at r q os)
  where
    here : (b : Bool) → is_visible o.fixed.class ≡ false → found_placed q (cond b (Some (on_body f o)) (object_at r os)) ≡ found_placed q (cond b (Some o) (object_at r os))
    here true h = rw h refl
    here false h = refl

    elsewhere : (b : Bool) → found_placed q (object_at r (changed_in f at os)) ≡ found_placed q (object_at r os) → found_placed q (cond b (Some o) (object_at r (changed_in f at os))) ≡ found_placed q (cond b (Some o) (object_at r os))
    elsewhere true below = refl
    elsewhere false below = below

    by : (t : Bool) → option_map_or (λ (x : Object). is_visible x.fixed.class) (cond t (Some o) (object_at at os)) false ≡ false → (option_map_or (λ (x : Object). is_visible x.fixed.class) (object_at at os) false ≡ false → found_placed q (object_at r (changed_in f at os)) ≡ found_placed q (object_at r os)) → found_placed q (object_at r (if t then on_body f o ∷ os else o ∷ changed_in f at os)) ≡ found_placed q (cond (is_at r o) (Some o) (object_at r os))
    by true h below = here (is_at r o) h
    by false h below = elsewhere (is_at r o) (below h)

ready-unseen : (f : Fixed → Body → Body) (at : ObjRef) (ps : List (ObjRef × Position)) (os : Objects) → option_map_or (λ (o : Object). is_visible o.fixed.class) (object_at at (all os)) false ≡ false → ready_placed ps (changed f at os) ≡ ready_placed ps os
ready-unseen f at [] os none = refl
ready-unseen f at (p ∷ ps) os none =
    let first : found_placed p.1 (object_at p.0 (all (changed f at os))) ≡ found_placed p.1 (object_at p.0 (all os)) =
    ap (λ (xs : List Object). found_placed p.1 (object_at p.0 xs)) (all-changed f at os) ∙ invisible_changed f at p.0 p.1 (all os) none in
    λ i. first i ++ ready-unseen f at ps os none i

-- what was made ready before a change of one that is no visible, put among the objects behind it
pub renewed_behind : (f : Fixed → Body → Body) (at : ObjRef) (ps : List (ObjRef × Position)) (os now after : Objects) (made : List Object) → option_map_or (λ (o : Object). is_visible o.fixed.class) (object_at at (all os)) false ≡ false → made ≡ ready_placed ps os → now ≡ changed f at os → after ≡ all_renewed made now → after ≡ all_placed ps (changed f at os)
renewed_behind f at ps os now after made none is change put =
    put ∙ (λ i. all_renewed (is i) (change i))
    ∙ ap (λ (xs : List Object). all_renewed xs (changed f at os)) (sym (ready-unseen f at ps os none))
    ∙ all_renewed-alike ps (changed f at os) (changed f at os) (alike-itself (changed f at os))
