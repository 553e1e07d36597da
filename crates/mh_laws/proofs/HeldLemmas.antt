-- What is held stays held: the bodies of objects are changed by what their sets have.
use Rattle.std.specs.Prelude.{◌≡◌, ◌≤◌, ℕ, Bool, true, false, ◌||◌, if◌then◌else◌, cond, List, [], ◌∷◌, ◌++◌, map, Option, Some, None, refl}
use Rattle.std.specs.List.{list_any, Contains}
use Rattle.std.specs.Option.{option_map, option_map_or, option_or}
use Rattle.std.proofs.Common.{rules, ap, ◌∙◌, sym, subst}
use Rattle.std.proofs.lemmas.List.Elements.{Contains-append_right}
use Rattle.std.proofs.lemmas.List.Folds.{find-append}
use Rattle.mh_base.specs.declared.obj_ref.ObjRef.{ObjRef}
use Rattle.mh_base.specs.declared.value.Value.TheVariants as value
use Rattle.mh_base.specs.declared.value.Value.{Value}
use Rattle.mh_group.specs.declared.attribute.Attribute.TheVariants as attribute
use Rattle.mh_group.specs.declared.class.Class.{Class}
use Rattle.mh_group.specs.declared.written.Position.{Position}
use Rattle.mh_group.specs.Table.{is_visible}
use Rattle.mh_model.specs.declared.held.Held.TheVariants as of
use Rattle.mh_model.specs.declared.object.Body.{Body}
use Rattle.mh_model.specs.declared.object.Fixed.{Fixed}
use Rattle.mh_model.specs.declared.object.Object.{Object}
use Rattle.mh_model.specs.Bodies.{end_of, token_started, put, prepared, started, dropped, brought, stored, fits_value}
use Rattle.mh_model.specs.Known.{class_at}
use Rattle.mh_model.specs.ListItems.{has_item}
use Rattle.mh_model.specs.Listed.{Listed}
use Rattle.mh_model.specs.Lists.{objects_of}
use Rattle.mh_model.specs.Property.{held, as_value, as_reference, value_held}
use Rattle.mh_model.specs.Reference.{same_ref}
use Rattle.mh_model.specs.Rules.{is_at, on_body, changed_in, changed, with_text, text_brought, filled, placed_at, all_placed}
use Rattle.mh_model.specs.Service.{object_at, parts, fresh}
use Rattle.mh_model.specs.State.{Objects, all}
use Rattle.mh_laws.specs.Each.{Each}
use Rattle.mh_laws.specs.Flow.{has, Sets, refers, IsHeld, is_reference_in}
use Rattle.mh_laws.specs.Safe.{IsHeldOnce}
use Rattle.mh_laws.specs.Ways.{count_of}
use Rattle.mh_laws.proofs.OnceLemmas.{once_fresh}
use Rattle.mh_model.proofs.ListLemmas.{some_same}
use Rattle.mh_model.proofs.PartLemmas.{part_at-parts, parts-all, changed-own, changed-others}
use Rattle.mh_model.proofs.ServiceLemmas.{same_ref-same}

abbrev pub AreHeld : Sets → Objects → Type 0
AreHeld h os = Each (IsHeldOnce h) os.application × Each (IsHeldOnce h) os.scene

-- what is found

pub found_key : (r : ObjRef) (os : List Object) (o : Object) → object_at r os ≡ Some o → r ≡ o.fixed.key
found_key r [] o e = absurd cc
found_key r (x ∷ os) o e = by (is_at r x) refl (λ rest. found_key r os o rest) e
  where
    by : (b : Bool) → is_at r x ≡ b → (object_at r os ≡ Some o → r ≡ o.fixed.key) → cond b (Some x) (object_at r os) ≡ Some o → r ≡ o.fixed.key
    by true is below e = subst (λ (y : Object). r ≡ y.fixed.key) (some_same e) (same_ref-same r x.fixed.key is)
    by false is below e = below e

pub class_found : (r : ObjRef) (os : List Object) (o : Object) → object_at r os ≡ Some o → class_at r (parts os) ≡ Some o.fixed.class
class_found r os o e = ap (option_map (λ (p : Fixed). p.class)) (part_at-parts r os ∙ ap (option_map (λ (x : Object). x.fixed)) e)

pub none_found : (r : ObjRef) (os : List Object) → list_any (is_at r) os ≡ false → object_at r os ≡ None
none_found r [] e = refl
none_found r (o ∷ os) e = by (is_at r o) e (none_found r os)
  where
    by : (b : Bool) → (b || list_any (is_at r) os) ≡ false → (list_any (is_at r) os ≡ false → object_at r os ≡ None) → cond b (Some o) (object_at r os) ≡ None
    by true e below = absurd cc
    by false e below = below e

-- Changes

abbrev pub KeepsHeld : Sets → (Fixed → Body → Body) → Object → Type 0
KeepsHeld h f o = IsHeldOnce h o → IsHeldOnce h (on_body f o)

held_first : (h : Sets) (f : Fixed → Body → Body) (r : ObjRef) (os : List Object) → ((o : Object) → object_at r os ≡ Some o → KeepsHeld h f o) → Each (IsHeldOnce h) os → Each (IsHeldOnce h) (changed_in f r os)
held_first h f r [] keeps k = tt
held_first h f r (o ∷ os) keeps k = by (is_at r o) keeps (λ below. held_first h f r os below k.1)
  where
    by : (b : Bool) → ((x : Object) → cond b (Some o) (object_at r os) ≡ Some x → KeepsHeld h f x) → (((x : Object) → object_at r os ≡ Some x → KeepsHeld h f x) → Each (IsHeldOnce h) (changed_in f r os)) → Each (IsHeldOnce h) (if b then on_body f o ∷ os else o ∷ changed_in f r os)
    by true keeps below = (keeps o refl k.0, k.1)
    by false keeps below = (k.0, below keeps)

pub held_changed : (h : Sets) (f : Fixed → Body → Body) (r : ObjRef) (os : Objects) → ((o : Object) → object_at r (all os) ≡ Some o → KeepsHeld h f o) → AreHeld h os → AreHeld h (changed f r os)
held_changed h f r os keeps k = by (list_any (is_at r) os.application) refl
  where
    joined : object_at r (all os) ≡ option_or (object_at r os.application) (object_at r os.scene)
    joined = find-append (λ (o : Object). same_ref r o.fixed.key) os.application os.scene

    by : (b : Bool) → list_any (is_at r) os.application ≡ b → AreHeld h (if b then record os { application = changed_in f r os.application } else record os { scene = changed_in f r os.scene })
    by true e = (held_first h f r os.application (λ o found. keeps o (joined ∙ ap (λ (m : Option Object). option_or m (object_at r os.scene)) found)) k.0, k.1)
    by false e = (k.0, held_first h f r os.scene (λ o found. keeps o (joined ∙ ap (λ (m : Option Object). option_or m (object_at r os.scene)) (none_found r os.application e) ∙ found)) k.1)

-- a change that leaves alone what is held
abbrev LeavesHeld : (Fixed → Body → Body) → Type 0
LeavesHeld f = (p : Fixed) (b : Body) → ((f p b).value ≡ b.value) × ((f p b).list ≡ b.list)

pub same_value_held : (p : Fixed) (b d : Body) (q : ObjRef) → d.value ≡ b.value → as_reference (value_held p d) ≡ Some q → as_reference (value_held p b) ≡ Some q
same_value_held p b d q same e = sym (ap (λ (v : Option Value). as_reference (option_or v (as_value (held attribute.OrigValue p.properties)))) same) ∙ e

held_left : (h : Sets) (f : Fixed → Body → Body) → LeavesHeld f → (o : Object) → KeepsHeld h f o
held_left h f same o k = record {
  value = λ is q e. k.value is q (same_value_held o.fixed o.body (f o.fixed o.body) q (same o.fixed o.body).0 e);
  items = λ is q e. k.items is q (sym (ap (λ (l : Listed). has_item q l.entries) (same o.fixed o.body).1) ∙ e);
  once = λ q. subst (λ (l : Listed). count_of q (objects_of l.entries) ≤ 1) (sym (same o.fixed o.body).1) (k.once q);
}

pub leaves_changed : (h : Sets) (f : Fixed → Body → Body) (r : ObjRef) (os : Objects) → LeavesHeld f → AreHeld h os → AreHeld h (changed f r os)
leaves_changed h f r os same k = held_changed h f r os (λ o found. held_left h f same o) k

pub prepared_leaves : (text : Option (List ℕ)) → LeavesHeld (λ p b. prepared text b)
prepared_leaves text p b = by b.available
  where
    by : (t : Bool) → ((if t then b else (record b { available = true; text = text; point = end_of text })).value ≡ b.value) × ((if t then b else (record b { available = true; text = text; point = end_of text })).list ≡ b.list)
    by true = (refl, refl)
    by false = (refl, refl)

pub started_leaves : (text : Option (List ℕ)) → LeavesHeld (started text)
started_leaves text p b = by b.running
  where
    by : (t : Bool) → ((if t then b else record (prepared text b) { running = true; token = token_started p b }).value ≡ b.value) × ((if t then b else record (prepared text b) { running = true; token = token_started p b }).list ≡ b.list)
    by true = (refl, refl)
    by false = prepared_leaves text p b

pub dropped_leaves : LeavesHeld (λ p b. dropped b)
dropped_leaves p b = by b.available
  where
    by : (t : Bool) → ((if t then record b { available = false; text = None; point = 0 } else b).value ≡ b.value) × ((if t then record b { available = false; text = None; point = 0 } else b).list ≡ b.list)
    by true = (refl, refl)
    by false = (refl, refl)

placed_leaves : (q : Position) → LeavesHeld (placed_at q)
placed_leaves q p b = by (is_visible p.class)
  where
    by : (t : Bool) → ((if t then put attribute.OrigPosition (of.Pair q.x q.y) b else b).value ≡ b.value) × ((if t then put attribute.OrigPosition (of.Pair q.x q.y) b else b).list ≡ b.list)
    by true = (refl, refl)
    by false = (refl, refl)

pub held_placed : (h : Sets) (ps : List (ObjRef × Position)) (os : Objects) → AreHeld h os → AreHeld h (all_placed ps os)
held_placed h [] os k = k
held_placed h (p ∷ ps) os k = held_placed h ps (changed (placed_at p.1) p.0 os) (leaves_changed h (placed_at p.1) p.0 os (placed_leaves p.1) k)

-- text that is brought

held_text : (h : Sets) (is : ObjRef → Bool) (text : List ℕ) (os : List Object) → Each (IsHeldOnce h) os → Each (IsHeldOnce h) (with_text is text os)
held_text h is text [] k = tt
held_text h is text (o ∷ os) k = (by (is o.fixed.key), held_text h is text os k.1)
  where
    by : (t : Bool) → IsHeldOnce h (if t then record o { body = brought text o.body } else o)
    by true = record { value = k.0.value; items = k.0.items; once = k.0.once }
    by false = k.0

pub held_brought : (h : Sets) (is : ObjRef → Bool) (text : List ℕ) (os : Objects) → AreHeld h os → AreHeld h (text_brought is text os)
held_brought h is text os k = (held_text h is text os.application k.0, held_text h is text os.scene k.1)

-- Exchanges

pub held_fresh : (h : Sets) (ps : List Fixed) → Each (λ p. IsHeld h (fresh p)) ps → Each (IsHeldOnce h) (map fresh ps)
held_fresh h [] k = tt
held_fresh h (p ∷ ps) k = (record { value = k.0.value; items = k.0.items; once = once_fresh p }, held_fresh h ps k.1)

pub held_passed : (h g : Sets) (os : List Object) → ((p : Fixed) → Contains (parts os) p → (q : ObjRef) → has h p.key q ≡ true → has g p.key q ≡ true) → Each (IsHeldOnce h) os → Each (IsHeldOnce g) os
held_passed h g [] passes k = tt
held_passed h g (o ∷ os) passes k =
    (record { value = λ is q e. passes o.fixed (0, search rules, refl) q (k.0.value is q e); items = λ is q e. passes o.fixed (0, search rules, refl) q (k.0.items is q e); once = k.0.once }, held_passed h g os (λ p among q e. passes p (Contains-append_right (o.fixed ∷ []) (parts os) p among) q e) k.1)

-- Receivers

-- what a variable of references is given is in its set
abbrev pub Fillable : Sets → List Fixed → List ObjRef → List Value → Type 0
Fillable h ps [] vs = Unit {0}
Fillable h ps (r ∷ rs) [] = Unit {0}
Fillable h ps (r ∷ rs) (v ∷ vs) = ((q : ObjRef) → is_reference_in ps r ≡ true → v ≡ value.Object q → has h r q ≡ true) × Fillable h ps rs vs

as_object : (v : Value) (q : ObjRef) → as_reference (Some v) ≡ Some q → v ≡ value.Object q
as_object (value.Object r) q e = ap (λ (x : ObjRef). value.Object x) (some_same e)
as_object (value.Bool b) q e = absurd cc
as_object (value.Int n) q e = absurd cc
as_object (value.Octets os) q e = absurd cc
as_object (value.Content c) q e = absurd cc

held_stored : (h : Sets) (v : Value) (o : Object) → ((q : ObjRef) → refers o.fixed.class ≡ true → v ≡ value.Object q → has h o.fixed.key q ≡ true) → KeepsHeld h (λ p b. stored v b) o
held_stored h v o may k = by (fits_value v)
  where
    by : (t : Bool) → IsHeldOnce h (record o { body = if t then record o.body { value = Some v } else o.body })
    by true = record { value = λ is q e. may q is (as_object v q e); items = k.items; once = k.once }
    by false = record { value = k.value; items = k.items; once = k.once }

parts_changed : (f : Fixed → Body → Body) (r : ObjRef) (os : Objects) → parts (all (changed f r os)) ≡ parts (all os)
parts_changed f r os =
    parts-all (changed f r os)
    ∙ ap (λ (t : List Fixed). t ++ parts (changed f r os).scene) (changed-own f r os)
    ∙ ap (λ (t : List Fixed). parts os.application ++ t) (changed-others f r os)
    ∙ sym (parts-all os)

pub held_filled : (h : Sets) (ps : List Fixed) (rs : List ObjRef) (vs : List Value) (os : Objects) → parts (all os) ≡ ps → Fillable h ps rs vs → AreHeld h os → AreHeld h (filled rs vs os)
held_filled h ps [] vs os e f k = k
held_filled h ps (r ∷ rs) [] os e f k = k
held_filled h ps (r ∷ rs) (v ∷ vs) os e f k =
    held_filled h ps rs vs (changed (λ p b. stored v b) r os) (parts_changed (λ p b. stored v b) r os ∙ e) f.1 (held_changed h (λ p b. stored v b) r os one k)
  where
    one : (o : Object) → object_at r (all os) ≡ Some o → KeepsHeld h (λ p b. stored v b) o
    one o found =
        held_stored h v o (λ q is same. subst (λ (x : ObjRef). has h x q ≡ true) (found_key r (all os) o found)
        (f.0 q (ap (λ (xs : List Fixed). is_reference_in xs r) (sym e) ∙ ap (λ (m : Option Class). option_map_or refers m false) (class_found r (all os) o found) ∙ is) same))

pub fillable : (h : Sets) (ps : List Fixed) (rs : List ObjRef) (vs : List Value) → ((r q : ObjRef) → Contains rs r → is_reference_in ps r ≡ true → Contains vs (value.Object q) → has h r q ≡ true) → Fillable h ps rs vs
fillable h ps [] vs may = tt
fillable h ps (r ∷ rs) [] may = tt
fillable h ps (r ∷ rs) (v ∷ vs) may =
    (λ q is same. may r q (0, search rules, refl) is (0, search rules, same), fillable h ps rs vs (λ x q among is given. may x q (Contains-append_right (r ∷ []) rs x among) is (Contains-append_right (v ∷ []) vs (value.Object q) given)))
