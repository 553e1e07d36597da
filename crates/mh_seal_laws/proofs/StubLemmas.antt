-- A service with stubs for its late scenes is a part of it.
use Rattle.std.specs.List.{find}
use Rattle.std.specs.Option.{option_map, option_map_or}
use Rattle.std.specs.Prelude.{◌≡◌, ◌∷◌, ◌==◌, ◌&&◌, Bool, List, None, Option, Some, [], cond, false, if◌then◌else◌, map, true, unwrap_or, ℕ}
use Rattle.std.specs.Str.{bytes_eq}
use Rattle.std.specs.Cmp.Lexicographic.{nat_list_eq_equiv}
use Rattle.std.proofs.Common.{ap, refl, subst, sym, ◌∙◌}
use Rattle.std.proofs.lemmas.Bool.Decides.{Decides-eqb}
use Rattle.std.proofs.lemmas.Slice.Eq.{bytes_eq-Decides}
use Rattle.mh_base.specs.declared.obj_ref.ObjRef.{ObjRef}
use Rattle.mh_group.specs.Table.{is_application, is_scene}
use Rattle.mh_group.specs.declared.class.Class.{Class}
use Rattle.mh_group.specs.declared.class.Class.TheVariants as class
use Rattle.mh_model.specs.declared.object.Fixed.{Fixed}
use Rattle.mh_model.specs.Configuration.{is_group_of}
use Rattle.mh_model.specs.Known.{class_at}
use Rattle.mh_model.specs.Late.{is_late_scene}
use Rattle.mh_model.specs.Reference.{group_ref}
use Rattle.mh_model.specs.Service.{Service, group_parts, part_at}
use Rattle.mh_laws.specs.Safe.{IsSafe}
use Rattle.mh_laws.proofs.SafeLemmas.{safe_begun}
use Rattle.mh_model.specs.State.{begun}
use Rattle.mh_seal_laws.proofs.Whole.{StubsArePart}
use Rattle.mh_seal_laws.specs.Stubs.{stub, stubbed}
use Rattle.mh_seal_laws.proofs.BringLemmas.{apart_classes, never_both, not_late}

abbrev Entry : Type 0
Entry = List ℕ × List Fixed

abbrev turned : List (List ℕ) → Entry → Entry
turned gs e = if is_late_scene e.0 gs then (e.0, stub e.0 ∷ []) else e

abbrev has : List ℕ → Entry → Bool
has g e = bytes_eq e.0 g

name_stays : (gs : List (List ℕ)) (e : Entry) → (turned gs e).0 ≡ e.0
name_stays gs e = by (is_late_scene e.0 gs)
  where
    by : (b : Bool) → (if b then (e.0, stub e.0 ∷ []) else e).0 ≡ e.0
    by true = refl
    by false = refl

with_stubs : (gs : List (List ℕ)) (g : List ℕ) (es : List Entry) → find (has g) (map (turned gs) es) ≡ option_map (turned gs) (find (has g) es)
with_stubs gs g [] = refl
with_stubs gs g (e ∷ es) = ap (λ (k : List ℕ). cond (bytes_eq k g) (Some (turned gs e)) (find (has g) (map (turned gs) es))) (name_stays gs e) ∙ by (bytes_eq e.0 g) (with_stubs gs g es)
  where
    by : (b : Bool) → find (has g) (map (turned gs) es) ≡ option_map (turned gs) (find (has g) es) → cond b (Some (turned gs e)) (find (has g) (map (turned gs) es)) ≡ option_map (turned gs) (cond b (Some e) (find (has g) es))
    by true more = refl
    by false more = more

-- what is found has the name
found_named : (g : List ℕ) (es : List Entry) (e : Entry) → find (has g) es ≡ Some e → e.0 ≡ g
found_named g [] e h = absurd cc
found_named g (x ∷ es) e h = by (bytes_eq x.0 g) refl (found_named g es e) h
  where
    by : (b : Bool) → bytes_eq x.0 g ≡ b → (find (has g) es ≡ Some e → e.0 ≡ g) → cond b (Some x) (find (has g) es) ≡ Some e → e.0 ≡ g
    by true own more h = ap (λ (m : Option Entry). option_map_or (λ (y : Entry). y.0) m g) (sym h) ∙ (bytes_eq-Decides x.0 g).0 own
    by false own more h = more h

abbrev parts_of : Option Entry → List Fixed
parts_of m = unwrap_or (option_map (λ e. e.1) m) []

kept : (v : Service) (g : List ℕ) → is_late_scene g v.late ≡ false → group_parts (stubbed v) g ≡ group_parts v g
kept v g h = ap parts_of (with_stubs v.late g v.groups) ∙ by (find (has g) v.groups) refl
  where
    by : (m : Option Entry) → find (has g) v.groups ≡ m → parts_of (option_map (turned v.late) m) ≡ parts_of m
    by None e = refl
    by (Some x) e = ap (λ (b : Bool). (if b then (x.0, stub x.0 ∷ []) else x).1) (ap (λ (k : List ℕ). is_late_scene k v.late) (found_named g v.groups x e) ∙ h)

-- what a stub tells
stub_class : (g : List ℕ) → class_at (group_ref g) (stub g ∷ []) ≡ Some class.Scene
stub_class g = ap (λ (b : Bool). option_map (λ (p : Fixed). p.class) (cond (b && true) (Some (stub g)) None)) (nat_list_eq_equiv.refl g)

scene_only : (k : Class) → is_scene k ≡ true → k ≡ class.Scene
scene_only class.Scene e = refl
scene_only _ e = absurd cc

scene_class : (v : Service) (g : List ℕ) → is_group_of is_scene v g ≡ true → class_at (group_ref g) (group_parts v g) ≡ Some class.Scene
scene_class v g h = by (part_at (group_ref g) (group_parts v g)) h
  where
    by : (m : Option Fixed) → option_map_or (λ (p : Fixed). is_scene p.class) m false ≡ true → option_map (λ (p : Fixed). p.class) m ≡ Some class.Scene
    by None e = absurd cc
    by (Some p) e = ap (λ (k : Class). Some k) (scene_only p.class e)

late_class : (v : Service) (g : List ℕ) → is_late_scene g v.late ≡ true → is_group_of is_scene v g ≡ true → class_at (group_ref g) (group_parts (stubbed v) g) ≡ Some class.Scene
late_class v g late scene = ap (λ (m : Option Entry). class_at (group_ref g) (parts_of m)) (with_stubs v.late g v.groups) ∙ by (find (has g) v.groups) refl scene
  where
    by : (m : Option Entry) → find (has g) v.groups ≡ m → option_map_or (λ (p : Fixed). is_scene p.class) (part_at (group_ref g) (parts_of m)) false ≡ true → class_at (group_ref g) (parts_of (option_map (turned v.late) m)) ≡ Some class.Scene
    by None e h = absurd cc
    by (Some x) e h =
        let named = found_named g v.groups x e in
        ap (λ (b : Bool). class_at (group_ref g) (if b then (x.0, stub x.0 ∷ []) else x).1) (ap (λ (k : List ℕ). is_late_scene k v.late) named ∙ late)
        ∙ ap (λ (k : List ℕ). class_at (group_ref g) (stub k ∷ [])) named ∙ stub_class g

pub stubs_part : StubsArePart
stubs_part v good scenes = record { start = refl; programs = refl; late = refl; own = kept v v.start fresh_start; here = λ g h. kept v g h; classes = classes }
  where
    safe : IsSafe (begun v 0)
    safe = safe_begun v good 0

    fresh_start : is_late_scene v.start v.late ≡ false
    fresh_start = not_late v v.late v.start scenes (never_both v v.start is_application apart_classes (safe.by).application)

    of_group : (g : List ℕ) (b : Bool) → is_late_scene g v.late ≡ b → class_at (group_ref g) (group_parts (stubbed v) g) ≡ class_at (group_ref g) (group_parts v g)
    of_group g true e = late_class v g e (scenes g e) ∙ sym (scene_class v g (scenes g e))
    of_group g false e = ap (class_at (group_ref g)) (kept v g e)

    classes : (r : ObjRef) → (r.number == 0) ≡ true → class_at r (group_parts (stubbed v) r.group) ≡ class_at r (group_parts v r.group)
    classes r e =
        let zeroth : r.number ≡ 0 = (Decides-eqb r.number 0).0 e in
        let itself : r ≡ group_ref r.group = λ i. record { group = r.group; number = zeroth i } in
        subst (λ (q : ObjRef). class_at q (group_parts (stubbed v) r.group) ≡ class_at q (group_parts v r.group)) (sym itself) (of_group r.group (is_late_scene r.group v.late) refl)
