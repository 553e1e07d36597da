-- What the files say of objects, which no change of a body touches.
use Rattle.std.specs.Prelude.{◌≡◌, ℕ, Bool, true, false, if◌then◌else◌, cond, List, [], ◌∷◌, ◌++◌, map, Option, Some, refl}
use Rattle.std.specs.List.{list_any}
use Rattle.std.specs.Option.{option_map, option_map_or}
use Rattle.std.proofs.Common.{ap, ◌∙◌}
use Rattle.std.proofs.lemmas.List.{map-append}
use Rattle.mh_base.specs.declared.obj_ref.ObjRef.{ObjRef}
use Rattle.mh_model.specs.declared.object.Body.{Body}
use Rattle.mh_model.specs.declared.object.Fixed.{Fixed}
use Rattle.mh_model.specs.declared.object.Object.{Object}
use Rattle.mh_model.specs.Service.{part_at, object_at, parts, fresh, is_there}
use Rattle.mh_model.specs.State.{Objects, all}
use Rattle.mh_model.specs.Rules.{is_at, on_body, changed_in, changed, with_text, all_placed, placed_at}
use Rattle.mh_model.specs.Bodies.{brought}
use Rattle.mh_group.specs.declared.written.Position.{Position}

pub part_at-parts : (r : ObjRef) (os : List Object) → part_at r (parts os) ≡ option_map (λ o. o.fixed) (object_at r os)
part_at-parts r [] = refl
part_at-parts r (o ∷ os) =
    elim (is_at r o) as (λ (b : Bool). cond b (Some o.fixed) (part_at r (parts os)) ≡ option_map (λ (x : Object). x.fixed) (cond b (Some o) (object_at r os))) [
      | true ↦ refl
      | false ↦ part_at-parts r os
    ]

-- an object that is found is there
pub found_there : (r : ObjRef) (os : List Object) (o : Object) → object_at r os ≡ Some o → is_there r (parts os) ≡ true
found_there r os o e = ap (λ (m : Option Fixed). option_map_or (λ (p : Fixed). true) m false) (part_at-parts r os ∙ ap (option_map (λ (x : Object). x.fixed)) e)

pub parts-fresh : (ps : List Fixed) → parts (map fresh ps) ≡ ps
parts-fresh [] = refl
parts-fresh (p ∷ ps) = ap (λ (t : List Fixed). p ∷ t) (parts-fresh ps)

pub parts-all : (os : Objects) → parts (all os) ≡ parts os.application ++ parts os.scene
parts-all os = map-append (λ (o : Object). o.fixed) os.application os.scene

changed_in-parts : (f : Fixed → Body → Body) (r : ObjRef) (os : List Object) → parts (changed_in f r os) ≡ parts os
changed_in-parts f r [] = refl
changed_in-parts f r (o ∷ os) =
    elim (is_at r o) as (λ (b : Bool). parts (if b then on_body f o ∷ os else o ∷ changed_in f r os) ≡ o.fixed ∷ parts os) [
      | true ↦ refl
      | false ↦ ap (λ (t : List Fixed). o.fixed ∷ t) (changed_in-parts f r os)
    ]

pub changed-own : (f : Fixed → Body → Body) (r : ObjRef) (os : Objects) → parts (changed f r os).application ≡ parts os.application
changed-own f r os =
    elim (list_any (is_at r) os.application) as (λ (b : Bool). parts (if b then record os { application = changed_in f r os.application } else record os { scene = changed_in f r os.scene }).application ≡ parts os.application) [
      | true ↦ changed_in-parts f r os.application
      | false ↦ refl
    ]

pub changed-others : (f : Fixed → Body → Body) (r : ObjRef) (os : Objects) → parts (changed f r os).scene ≡ parts os.scene
changed-others f r os =
    elim (list_any (is_at r) os.application) as (λ (b : Bool). parts (if b then record os { application = changed_in f r os.application } else record os { scene = changed_in f r os.scene }).scene ≡ parts os.scene) [
      | true ↦ refl
      | false ↦ changed_in-parts f r os.scene
    ]

pub with_text-parts : (is : ObjRef → Bool) (text : List ℕ) (os : List Object) → parts (with_text is text os) ≡ parts os
with_text-parts is text [] = refl
with_text-parts is text (o ∷ os) =
    elim (is o.fixed.key) as (λ (b : Bool). parts ((if b then record o { body = brought text o.body } else o) ∷ with_text is text os) ≡ o.fixed ∷ parts os) [
      | true ↦ ap (λ (t : List Fixed). o.fixed ∷ t) (with_text-parts is text os)
      | false ↦ ap (λ (t : List Fixed). o.fixed ∷ t) (with_text-parts is text os)
    ]

-- where objects are placed only bodies change

pub placed-own : (ps : List (ObjRef × Position)) (os : Objects) → parts (all_placed ps os).application ≡ parts os.application
placed-own [] os = refl
placed-own (p ∷ ps) os = placed-own ps (changed (placed_at p.1) p.0 os) ∙ changed-own (placed_at p.1) p.0 os

pub placed-others : (ps : List (ObjRef × Position)) (os : Objects) → parts (all_placed ps os).scene ≡ parts os.scene
placed-others [] os = refl
placed-others (p ∷ ps) os = placed-others ps (changed (placed_at p.1) p.0 os) ∙ changed-others (placed_at p.1) p.0 os
