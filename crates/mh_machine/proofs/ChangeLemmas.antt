-- Changing the body of an object that was found.
use Rattle.std.specs.Prelude.{◌≡◌, ℕ, ◌≤◌, Bool, true, false, ◌||◌, if◌then◌else◌, cond, List, [], ◌∷◌, ◌++◌, map, Option, Some, None, refl}
use Rattle.std.specs.List.{list_any}
use Rattle.std.specs.Option.{option_map_or}
use Rattle.std.proofs.Common.{ap, ◌∙◌, sym, subst}
use Rattle.mh_base.specs.declared.obj_ref.ObjRef.{ObjRef}
use Rattle.mh_model.specs.declared.object.Body.{Body}
use Rattle.mh_model.specs.declared.object.Fixed.{Fixed}
use Rattle.mh_model.specs.declared.object.Object.{Object}
use Rattle.mh_base.specs.declared.value.Value.{Value}
use Rattle.mh_model.specs.Bodies.{given, stored, fits_value}
use Rattle.mh_model.specs.Service.{Service, object_at, group_parts, parts, fresh}
use Rattle.mh_model.specs.State.{Objects, all}
use Rattle.mh_model.specs.Rules.{is_at, on_body, changed_in, changed}
use Rattle.mh_model.proofs.PartLemmas.{parts-all, parts-fresh, changed-own, changed-others}
use Rattle.mh_model.specs.declared.edit.Edit.{Edit}
use Rattle.mh_model.specs.Edits.{edited, edited_if}
use Rattle.mh_machine.specs.declared.plan.Change.TheVariants as change
use Rattle.mh_machine.specs.Plans.{Makes, change_at}
use Rattle.mh_machine.specs.Holds.{Holds}
use Rattle.mh_work.specs.Links.{IsIndex}
use Rattle.mh_work.specs.Listening.{Index}

-- what is known of the object may be used
found_in : (f : Fixed → Body → Body) (r : ObjRef) (os : List Object) (o : Object) → object_at r os ≡ Some o → changed_in (λ p b. f o.fixed o.body) r os ≡ changed_in f r os
found_in f r [] o e = refl
found_in f r (x ∷ os) o e =
    elim (is_at r x) as (λ (b : Bool). cond b (Some x) (object_at r os) ≡ Some o → (if b then on_body (λ p c. f o.fixed o.body) x ∷ os else x ∷ changed_in (λ p c. f o.fixed o.body) r os) ≡ (if b then on_body f x ∷ os else x ∷ changed_in f r os)) [
      | true ↦ λ is. ap (λ (z : Object). record x { body = f z.fixed z.body } ∷ os) (sym (ap (λ (m : Option Object). option_map_or (λ (z : Object). z) m x) is))
      | false ↦ λ is. ap (λ (t : List Object). x ∷ t) (found_in f r os o is)
    ] e

-- where there is none nothing changes
missing_in : (f : Fixed → Body → Body) (r : ObjRef) (os : List Object) → object_at r os ≡ None → changed_in f r os ≡ os
missing_in f r [] e = refl
missing_in f r (x ∷ os) e =
    elim (is_at r x) as (λ (b : Bool). cond b (Some x) (object_at r os) ≡ None → (if b then on_body f x ∷ os else x ∷ changed_in f r os) ≡ x ∷ os) [
      | true ↦ λ is. absurd cc
      | false ↦ λ is. ap (λ (t : List Object). x ∷ t) (missing_in f r os is)
    ] e

-- an object of the first list is found there, another in the second

here : (r : ObjRef) (os ps : List Object) → list_any (is_at r) os ≡ true → object_at r (os ++ ps) ≡ object_at r os
here r [] ps e = absurd cc
here r (o ∷ os) ps e =
    elim (is_at r o) as (λ (b : Bool). b || list_any (is_at r) os ≡ true → cond b (Some o) (object_at r (os ++ ps)) ≡ cond b (Some o) (object_at r os)) [
      | true ↦ λ h. refl
      | false ↦ λ h. here r os ps h
    ] e

beyond : (r : ObjRef) (os ps : List Object) → list_any (is_at r) os ≡ false → object_at r (os ++ ps) ≡ object_at r ps
beyond r [] ps e = refl
beyond r (o ∷ os) ps e =
    elim (is_at r o) as (λ (b : Bool). b || list_any (is_at r) os ≡ false → cond b (Some o) (object_at r (os ++ ps)) ≡ object_at r ps) [
      | true ↦ λ h. absurd cc
      | false ↦ λ h. beyond r os ps h
    ] e

-- where there is none, nothing changes
pub unchanged : (f : Fixed → Body → Body) (r : ObjRef) (os : Objects) → None ≡ object_at r (all os) → os ≡ changed f r os
unchanged f r os e = by (list_any (is_at r) os.application) refl
  where
    by : (b : Bool) → list_any (is_at r) os.application ≡ b → os ≡ (if b then record os { application = changed_in f r os.application } else record os { scene = changed_in f r os.scene })
    by true is = ap (λ (t : List Object). record os { application = t }) (sym (missing_in f r os.application (sym (here r os.application os.scene is) ∙ sym e)))
    by false is = ap (λ (t : List Object). record os { scene = t }) (sym (missing_in f r os.scene (sym (beyond r os.application os.scene is) ∙ sym e)))

-- what is known of the object that is found may be used
known : (f : Fixed → Body → Body) (r : ObjRef) (os : Objects) (o : Object) → Some o ≡ object_at r (all os) → changed (λ p c. f o.fixed o.body) r os ≡ changed f r os
known f r os o e = by (list_any (is_at r) os.application) refl
  where
    by : (b : Bool) → list_any (is_at r) os.application ≡ b
        → (if b then record os { application = changed_in (λ p c. f o.fixed o.body) r os.application } else record os { scene = changed_in (λ p c. f o.fixed o.body) r os.scene })
        ≡ (if b then record os { application = changed_in f r os.application } else record os { scene = changed_in f r os.scene })
    by true is = ap (λ (t : List Object). record os { application = t }) (found_in f r os.application o (sym (here r os.application os.scene is) ∙ sym e))
    by false is = ap (λ (t : List Object). record os { scene = t }) (found_in f r os.scene o (sym (beyond r os.application os.scene is) ∙ sym e))

-- two changes are one where they agree on the object that is found
pub agreeing : (f g : Fixed → Body → Body) (r : ObjRef) (os : Objects) (o : Object) → Some o ≡ object_at r (all os) → g o.fixed o.body ≡ f o.fixed o.body → changed g r os ≡ changed f r os
agreeing f g r os o e same = sym (known g r os o e) ∙ ap (λ (b : Body). changed (λ p c. b) r os) same ∙ known f r os o e

idle_in : (r : ObjRef) (os : List Object) → changed_in (λ p b. b) r os ≡ os
idle_in r [] = refl
idle_in r (o ∷ os) =
    elim (is_at r o) as (λ (b : Bool). (if b then o ∷ os else o ∷ changed_in (λ p c. c) r os) ≡ o ∷ os) [
      | true ↦ refl
      | false ↦ ap (λ (t : List Object). o ∷ t) (idle_in r os)
    ]

idle : (r : ObjRef) (os : Objects) → changed (λ p b. b) r os ≡ os
idle r os =
    elim (list_any (is_at r) os.application) as (λ (b : Bool). (if b then record os { application = changed_in (λ p c. c) r os.application } else record os { scene = changed_in (λ p c. c) r os.scene }) ≡ os) [
      | true ↦ ap (λ (t : List Object). record os { application = t }) (idle_in r os.application)
      | false ↦ ap (λ (t : List Object). record os { scene = t }) (idle_in r os.scene)
    ]

-- an edit, or none, that makes of the body what the rule makes of it is the rule's change
pub makes_none : (f : Fixed → Body → Body) (r : ObjRef) → Makes change.Nothing f r None
makes_none f r os e = unchanged f r os e

pub makes_edit : (f : Fixed → Body → Body) (r : ObjRef) (o : Object) (m : Option Edit) → edited_if m o.fixed o.body ≡ f o.fixed o.body → Makes (change_at r m) f r (Some o)
makes_edit f r o None same os e = sym (idle r os) ∙ agreeing f (λ p b. b) r os o e same
makes_edit f r o (Some x) same os e = agreeing f (edited x) r os o e same

-- no change touches what the files say
pub same_parts : (f : Fixed → Body → Body) (r : ObjRef) (os : Objects) → parts (all (changed f r os)) ≡ parts (all os)
same_parts f r os =
    parts-all (changed f r os)
    ∙ ap (λ (t : List Fixed). t ++ parts (changed f r os).scene) (changed-own f r os)
    ∙ ap (λ (t : List Fixed). parts os.application ++ t) (changed-others f r os)
    ∙ sym (parts-all os)

-- what the files say of the objects of fresh groups
pub begun_parts : (ps : List Fixed) (os : Objects) → os ≡ record { application = map fresh ps; scene = [] } → parts (all os) ≡ ps ++ []
begun_parts ps os e =
    ap (λ (x : Objects). parts (all x)) e ∙ parts-all (record { application = map fresh ps; scene = [] }) ∙ ap (λ (t : List Fixed). t ++ []) (parts-fresh ps)

pub begun_own : (ps : List Fixed) (os : Objects) → os ≡ record { application = map fresh ps; scene = [] } → parts os.application ≡ ps
begun_own ps os e = ap (λ (x : Objects). parts x.application) e ∙ parts-fresh ps

-- what a machine keeps, when the scene has been exchanged
pub exchanged : (v : Service) (app : List ℕ) (os after : Objects) (ps own : List Fixed) (links : Index) (locks taken : ℕ)
    → after ≡ record os { scene = map fresh ps } → parts os.application ≡ group_parts v app → own ≡ group_parts v app → IsIndex links (own ++ ps)
    → locks ≤ taken → Holds v app after links locks taken
exchanged v app os after ps own links locks taken e kept is_own index counted =
    let first : parts after.application ≡ group_parts v app = ap (λ (x : Objects). parts x.application) e ∙ kept in
    let second : parts after.scene ≡ ps = ap (λ (x : Objects). parts x.scene) e ∙ parts-fresh ps in
    let whole : parts (all after) ≡ own ++ ps =
    parts-all after ∙ ap (λ (t : List Fixed). t ++ parts after.scene) (first ∙ sym is_own) ∙ ap (λ (t : List Fixed). own ++ t) second in
    record {
      own = first;
      index = subst (IsIndex links) (sym whole) index;
      counted = counted;
    }

-- and when the application has been exchanged
pub launched : (v : Service) (app : List ℕ) (after : Objects) (ps : List Fixed) (links : Index) (locks taken : ℕ)
    → after ≡ record { application = map fresh ps; scene = [] } → ps ≡ group_parts v app → IsIndex links (ps ++ []) → locks ≤ taken
    → Holds v app after links locks taken
launched v app after ps links locks taken e own index counted = record {
  own = begun_own ps after e ∙ own;
  index = subst (IsIndex links) (sym (begun_parts ps after e)) index;
  counted = counted;
}

-- what a machine keeps, when bodies have changed
pub holds_changed : (v : Service) (app : List ℕ) (os after : Objects) (links : Index) (locks taken more : ℕ)
    → parts after.application ≡ parts os.application → parts after.scene ≡ parts os.scene → locks ≤ more → Holds v app os links locks taken → Holds v app after links locks more
holds_changed v app os after links locks taken more own others counted k = record {
  own = own ∙ k.own;
  index = subst (IsIndex links) (sym (parts-all after ∙ ap (λ (t : List Fixed). t ++ parts after.scene) own ∙ ap (λ (t : List Fixed). parts os.application ++ t) others ∙ sym (parts-all os))) k.index;
  counted = counted;
}

-- a value that a variable cannot hold changes nothing

same_in : (r : ObjRef) (os : List Object) → changed_in (λ p b. b) r os ≡ os
same_in r [] = refl
same_in r (o ∷ os) =
    elim (is_at r o) as (λ (b : Bool). (if b then on_body (λ p c. c) o ∷ os else o ∷ changed_in (λ p c. c) r os) ≡ o ∷ os) [
      | true ↦ refl
      | false ↦ ap (λ (t : List Object). o ∷ t) (same_in r os)
    ]

same : (r : ObjRef) (os : Objects) → changed (λ p b. b) r os ≡ os
same r os = by (list_any (is_at r) os.application)
  where
    by : (t : Bool) → (if t then record os { application = changed_in (λ p b. b) r os.application } else record os { scene = changed_in (λ p b. b) r os.scene }) ≡ os
    by true = λ i. record os { application = same_in r os.application i }
    by false = λ i. record os { scene = same_in r os.scene i }

pub not_stored : (v : Value) (r : ObjRef) (os : Objects) → fits_value v ≡ false → os ≡ changed (λ p b. stored v b) r os
not_stored v r os e = sym (ap (λ (t : Bool). changed (λ p b. if t then given v b else b) r os) e ∙ same r os)

pub is_stored : (v : Value) (r : ObjRef) (os : Objects) → fits_value v ≡ true → changed (λ p b. given v b) r os ≡ changed (λ p b. stored v b) r os
is_stored v r os e = sym (ap (λ (t : Bool). changed (λ p b. if t then given v b else b) r os) e)
