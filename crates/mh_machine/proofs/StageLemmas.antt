-- Beside what has changed, the picture stays as it was.
use Rattle.std.specs.Prelude.{◌≡◌, ℕ, ◌<◌, Bool, true, false, not, if◌then◌else◌, List, [], ◌∷◌, ◌++◌, filter, map, reverse, Option, Some, None, refl}
use Rattle.std.specs.Option.{option_map, option_or}
use Rattle.std.specs.Str.{bytes_eq}
use Rattle.std.proofs.Common.{ap, ◌∙◌, sym, subst, append_assoc, append-nil}
use Rattle.std.proofs.lemmas.List.{reverse-append}
use Rattle.mh_base.specs.declared.obj_ref.ObjRef.{ObjRef}
use Rattle.mh_base.specs.declared.value.Value.{Value}
use Rattle.mh_group.specs.declared.class.Class.{Class}
use Rattle.mh_group.specs.declared.class.Class.TheVariants as class
use Rattle.mh_actions.specs.declared.ordering.Reorder.{Reorder}
use Rattle.mh_actions.specs.declared.ordering.Reorder.TheVariants as reorder
use Rattle.mh_display.specs.Surface.{Surface, is_stale, IsClean, IsRight, Spoils}
use Rattle.mh_model.specs.declared.picture.cell.Cell.{Cell}
use Rattle.mh_model.specs.declared.object.Body.{Body}
use Rattle.mh_model.specs.declared.object.Fixed.{Fixed}
use Rattle.mh_model.specs.declared.object.Object.{Object}
use Rattle.mh_model.specs.Bodies.{given}
use Rattle.mh_model.specs.Stack.{without, just_above, just_below}
use Rattle.mh_group.specs.declared.attribute.Attribute.TheVariants as attribute
use Rattle.mh_model.specs.declared.picture.line.Line.{Line}
use Rattle.mh_model.specs.Looks.{Paint, nothing, paint_by, text_paint, area_of, colour_of, transparent_black, opaque_white, lines_of_text, shown_text}
use Rattle.mh_model.specs.Picture.{cell_of, back_or, back_under, mark_or, mark_under, is_seen, painted, paint_at, cell_at, picture}
use Rattle.mh_model.specs.Planes.{Planes, IsWhole, blank}
use Rattle.mh_model.specs.Rules.{is_at, on_body, changed_in, changed}
use Rattle.mh_model.specs.Service.{object_at}
use Rattle.mh_model.specs.Reference.{same_ref}
use Rattle.mh_model.specs.State.{Objects, all}
use Rattle.mh_model.proofs.PlanesLemmas.{is_picture, cell_of-picture, blank-picture}
use Rattle.mh_model.proofs.ServiceLemmas.{same_ref-same}
use Rattle.mh_machine.specs.declared.plan.Stacking.TheVariants as stacking
use Rattle.mh_machine.specs.Marks.{OthersPaintNothing, SpoilsOthers, SpoilsUnless}
use Rattle.mh_machine.specs.Plans.{restacked}
use Rattle.mh_store.specs.Apart.{AreOfOthers}
use Rattle.mh_store.proofs.BothLemmas.{object_at-all}
use Rattle.mh_store.proofs.PlacingLemmas.{all-changed}

-- Cells, painted from the bottom of the stack up.

abbrev Under : Type 0
Under = (ℕ × ℕ) × ℕ

abbrev under : List Paint → Under
under ps = (mark_under ps, back_under ps)

abbrev over : Paint → Under → Under
over p u = (mark_or p.mark p.back u.0, back_or p.back u.1)

abbrev risen : (ObjRef → Paint) → List ObjRef → Under → Under
risen f [] u = u
risen f (r ∷ rs) u = risen f rs (over (f r) u)

abbrev as_cell : Under → Cell
as_cell u = record { scalar = u.0.0; fore = u.0.1; back = u.1 }

map_joined : (f : ObjRef → Paint) (xs ys : List ObjRef) → map f (xs ++ ys) ≡ map f xs ++ map f ys
map_joined f [] ys = refl
map_joined f (x ∷ xs) ys = ap (λ (t : List Paint). f x ∷ t) (map_joined f xs ys)

turned : (f : ObjRef → Paint) (r : ObjRef) (rs : List ObjRef) (ps : List Paint) → map f (reverse (r ∷ rs)) ++ ps ≡ map f (reverse rs) ++ f r ∷ ps
turned f r rs ps =
    ap (λ (t : List ObjRef). map f t ++ ps) (reverse-append (r ∷ []) rs)
    ∙ ap (λ (t : List Paint). t ++ ps) (map_joined f (reverse rs) (r ∷ []))
    ∙ append_assoc (map f (reverse rs)) (f r ∷ []) ps

risen-under : (f : ObjRef → Paint) (rs : List ObjRef) (ps : List Paint) → under (map f (reverse rs) ++ ps) ≡ risen f rs (under ps)
risen-under f [] ps = refl
risen-under f (r ∷ rs) ps = ap under (turned f r rs ps) ∙ risen-under f rs (f r ∷ ps)

cell-risen : (os : List Object) (stack : List ObjRef) (c : ℕ) → cell_at os stack c ≡ as_cell (risen (paint_at os c) stack ((32, 0), 0))
cell-risen os stack c =
    ap (λ (ps : List Paint). as_cell (under ps)) (sym (append-nil (map (paint_at os c) (reverse stack))))
    ∙ ap as_cell (risen-under (paint_at os c) stack [])

-- what paints nothing may stand anywhere

over_nothing : (p : Paint) (u : Under) → p ≡ nothing → over p u ≡ u
over_nothing p u none = ap (λ (q : Paint). over q u) none

risen_same : (f g : ObjRef → Paint) (rs : List ObjRef) (u : Under) → ((r : ObjRef) → g r ≡ f r) → risen g rs u ≡ risen f rs u
risen_same f g [] u same = refl
risen_same f g (r ∷ rs) u same = ap (λ (p : Paint). risen g rs (over p u)) (same r) ∙ risen_same f g rs (over (f r) u) same

risen_top : (f : ObjRef → Paint) (rs : List ObjRef) (r : ObjRef) (u : Under) → f r ≡ nothing → risen f (rs ++ r ∷ []) u ≡ risen f rs u
risen_top f [] r u none = over_nothing (f r) u none
risen_top f (x ∷ rs) r u none = risen_top f rs r (over (f x) u) none

risen_without : (f : ObjRef → Paint) (rs : List ObjRef) (r : ObjRef) (u : Under) → f r ≡ nothing → risen f (without r rs) u ≡ risen f rs u
risen_without f [] r u none = refl
risen_without f (x ∷ rs) r u none = by (same_ref r x) refl (λ w. risen_without f rs r w none)
  where
    by : (b : Bool) → same_ref r x ≡ b → ((w : Under) → risen f (without r rs) w ≡ risen f rs w) → risen f (if not b then x ∷ without r rs else without r rs) u ≡ risen f rs (over (f x) u)
    by true e others =
        others u
        ∙ sym (ap (risen f rs) (over_nothing (f x) u (subst (λ (y : ObjRef). f y ≡ nothing) (same_ref-same r x e) none)))
    by false e others = others (over (f x) u)

risen_above : (f : ObjRef → Paint) (rs : List ObjRef) (r q : ObjRef) (u : Under) → f r ≡ nothing → risen f (just_above r q rs) u ≡ risen f rs u
risen_above f [] r q u none = over_nothing (f r) u none
risen_above f (x ∷ rs) r q u none = by (same_ref q x) (risen_above f rs r q (over (f x) u) none)
  where
    by : (b : Bool) → risen f (just_above r q rs) (over (f x) u) ≡ risen f rs (over (f x) u) → risen f (if b then x ∷ r ∷ rs else x ∷ just_above r q rs) u ≡ risen f rs (over (f x) u)
    by true others = ap (risen f rs) (over_nothing (f r) (over (f x) u) none)
    by false others = others

risen_below : (f : ObjRef → Paint) (rs : List ObjRef) (r q : ObjRef) (u : Under) → f r ≡ nothing → risen f (just_below r q rs) u ≡ risen f rs u
risen_below f [] r q u none = over_nothing (f r) u none
risen_below f (x ∷ rs) r q u none = by (same_ref q x) (risen_below f rs r q (over (f x) u) none)
  where
    by : (b : Bool) → risen f (just_below r q rs) (over (f x) u) ≡ risen f rs (over (f x) u) → risen f (if b then r ∷ x ∷ rs else x ∷ just_below r q rs) u ≡ risen f rs (over (f x) u)
    by true others = ap (λ (w : Under). risen f rs (over (f x) w)) (over_nothing (f r) u none)
    by false others = others

-- references to one group stay, and those to others, which paint nothing, go
risen_kept : (f h : ObjRef → Paint) (g : List ℕ) (rs : List ObjRef) (u : Under) → OthersPaintNothing f g rs → ((r : ObjRef) → bytes_eq r.group g ≡ true → h r ≡ f r)
    → risen h (filter (λ r. bytes_eq r.group g) rs) u ≡ risen f rs u
risen_kept f h g [] u none same = refl
risen_kept f h g (x ∷ rs) u none same = by (bytes_eq x.group g) refl (λ w. risen_kept f h g rs w none.1 same)
  where
    by : (b : Bool) → bytes_eq x.group g ≡ b → ((w : Under) → risen h (filter (λ r. bytes_eq r.group g) rs) w ≡ risen f rs w)
        → risen h (if b then x ∷ filter (λ r. bytes_eq r.group g) rs else filter (λ r. bytes_eq r.group g) rs) u ≡ risen f rs (over (f x) u)
    by true e others = ap (λ (p : Paint). risen h (filter (λ r. bytes_eq r.group g) rs) (over p u)) (same x e) ∙ others (over (f x) u)
    by false e others = others u ∙ sym (ap (risen f rs) (over_nothing (f x) u (none.0 e)))

risen_moved : (f : ObjRef → Paint) (rs : List ObjRef) (r : ObjRef) (how : Reorder) (u : Under) → f r ≡ nothing → risen f (restacked (stacking.Move r how) rs) u ≡ risen f rs u
risen_moved f rs r reorder.Nothing u none = refl
risen_moved f rs r reorder.ToFront u none = risen_top f (without r rs) r u none ∙ risen_without f rs r u none
risen_moved f rs r reorder.ToBack u none = ap (risen f (without r rs)) (over_nothing (f r) u none) ∙ risen_without f rs r u none
risen_moved f rs r (reorder.Above q) u none = risen_above f (without r rs) r q u none ∙ risen_without f rs r u none
risen_moved f rs r (reorder.Below q) u none = risen_below f (without r rs) r q u none ∙ risen_without f rs r u none

-- Bodies that change.

pub found_changed : (f : Fixed → Body → Body) (r : ObjRef) (os : List Object) → object_at r (changed_in f r os) ≡ option_map (on_body f) (object_at r os)
found_changed f r [] = refl
found_changed f r (o ∷ os) = by (is_at r o) refl (found_changed f r os)
  where
    by : (b : Bool) → is_at r o ≡ b → object_at r (changed_in f r os) ≡ option_map (on_body f) (object_at r os) → object_at r (if b then on_body f o ∷ os else o ∷ changed_in f r os) ≡ option_map (on_body f) (if b then Some o else object_at r os)
    by true e others = ap (λ (t : Bool). if t then Some (on_body f o) else object_at r os) e
    by false e others = ap (λ (t : Bool). if t then Some o else object_at r (changed_in f r os)) e ∙ others

-- where it paints nothing before the change and behind it, each reference paints what it painted
pub paint_changed : (f : Fixed → Body → Body) (r : ObjRef) (os : List Object) (c : ℕ) → paint_at os c r ≡ nothing → painted c (option_map (on_body f) (object_at r os)) ≡ nothing
    → (at : ObjRef) → paint_at (changed_in f r os) c at ≡ paint_at os c at
paint_changed f r [] c before after at = refl
paint_changed f r (o ∷ os) c before after at =
    elim (is_at r o) as (λ (b : Bool). painted c (if b then Some o else object_at r os) ≡ nothing
    → painted c (option_map (on_body f) (if b then Some o else object_at r os)) ≡ nothing
    → painted c (object_at at (if b then on_body f o ∷ os else o ∷ changed_in f r os)) ≡ painted c (object_at at (o ∷ os))) [
      | true ↦ λ was now. elim (is_at at o) as (λ (b : Bool). painted c (if b then Some (on_body f o) else object_at at os) ≡ painted c (if b then Some o else object_at at os)) [
        | true ↦ now ∙ sym was
        | false ↦ refl
      ]
      | false ↦ λ was now. elim (is_at at o) as (λ (b : Bool). painted c (if b then Some o else object_at at (changed_in f r os)) ≡ painted c (if b then Some o else object_at at os)) [
        | true ↦ refl
        | false ↦ paint_changed f r os c was now at
      ]
    ] before after

-- what a variable is given is never seen
paint_given : (v : Value) (r at : ObjRef) (os : List Object) (c : ℕ) → paint_at (changed_in (λ p b. given v b) r os) c at ≡ paint_at os c at
paint_given v r at [] c = refl
paint_given v r at (o ∷ os) c =
    elim (is_at r o) as (λ (b : Bool). painted c (object_at at (if b then on_body (λ p d. given v d) o ∷ os else o ∷ changed_in (λ p d. given v d) r os)) ≡ painted c (object_at at (o ∷ os))) [
      | true ↦ elim (is_at at o) as (λ (b : Bool). painted c (if b then Some (on_body (λ p d. given v d) o) else object_at at os) ≡ painted c (if b then Some o else object_at at os)) [
        | true ↦ ap (λ (p : Paint). if is_seen o then p else nothing) (looks o.fixed.class)
        | false ↦ refl
      ]
      | false ↦ elim (is_at at o) as (λ (b : Bool). painted c (if b then Some o else object_at at (changed_in (λ p d. given v d) r os)) ≡ painted c (if b then Some o else object_at at os)) [
        | true ↦ refl
        | false ↦ paint_given v r at os c
      ]
    ]
  where
    lines : (m : Option (List ℕ)) → lines_of_text m (on_body (λ p d. given v d) o) ≡ lines_of_text m o
    lines None = refl
    lines (Some text) = refl

    looks : (k : Class) → paint_by k (on_body (λ p d. given v d) o) c ≡ paint_by k o c
    looks class.Rectangle = refl
    looks class.DynamicLineArt = refl
    looks _ =
        ap (λ (ls : List Line). text_paint (area_of o) (colour_of attribute.BackgroundColour transparent_black o) (colour_of attribute.TextColour opaque_white o) ls c) (lines (shown_text o))

pub same_cells : (os after : List Object) (stack : List ObjRef) (c : ℕ) → ((at : ObjRef) → paint_at after c at ≡ paint_at os c at) → cell_at after stack c ≡ cell_at os stack c
same_cells os after stack c same =
    cell-risen after stack c
    ∙ ap as_cell (risen_same (paint_at os c) (paint_at after c) stack ((32, 0), 0) same)
    ∙ sym (cell-risen os stack c)

-- What stays right.

pub right_empty : (os : List Object) (s : Surface) → s.planes ≡ blank → IsRight os [] s
right_empty os s black c inside clean =
    ap (λ (p : Planes). cell_of p c) (black ∙ blank-picture) ∙ cell_of-picture (cell_at [] []) c inside

pub right_spoilt : (os : List Object) (stack : List ObjRef) (o : Option Object) (before after : Surface) → after.planes ≡ before.planes → Spoils o before.marks after.marks → IsRight os stack before → IsRight os stack after
right_spoilt os stack o before after same spoils right c inside clean =
    ap (λ (p : Planes). cell_of p c) same ∙ right c inside (spoils c inside clean).0

pub right_changed : (f : Fixed → Body → Body) (r : ObjRef) (os last : Objects) (stack : List ObjRef) (was now : Option Object) (s t u : Surface) → last ≡ changed f r os → was ≡ object_at r (all os) → now ≡ object_at r (all last)
    → t.planes ≡ s.planes → u.planes ≡ t.planes → Spoils was s.marks t.marks → Spoils now t.marks u.marks → IsRight (all os) stack s → IsRight (all last) stack u
right_changed f r os last stack was now s t u made e e2 same same2 first second right c inside clean =
    let behind : (is_stale t.marks c ≡ false) × (painted c now ≡ nothing) = second c inside clean in
    let before : (is_stale s.marks c ≡ false) × (painted c was ≡ nothing) = first c inside behind.0 in
    let found : object_at r (all last) ≡ option_map (on_body f) (object_at r (all os)) =
    ap (λ (x : Objects). object_at r (all x)) made ∙ ap (object_at r) (all-changed f r os) ∙ found_changed f r (all os) in
    let none : paint_at (all os) c r ≡ nothing = sym (ap (painted c) e) ∙ before.1 in
    let none_behind : painted c (option_map (on_body f) (object_at r (all os))) ≡ nothing = sym (ap (painted c) (e2 ∙ found)) ∙ behind.1 in
    ap (λ (p : Planes). cell_of p c) (same2 ∙ same) ∙ right c inside before.0
    ∙ sym (ap (λ (x : Objects). cell_at (all x) stack c) made
    ∙ ap (λ (x : List Object). cell_at x stack c) (all-changed f r os)
    ∙ same_cells (all os) (changed_in f r (all os)) stack c (paint_changed f r (all os) c none none_behind))

pub right_given : (v : Value) (r : ObjRef) (os last : Objects) (stack : List ObjRef) (s : Surface) → last ≡ changed (λ p b. given v b) r os → IsRight (all os) stack s → IsRight (all last) stack s
right_given v r os last stack s made right c inside clean =
    right c inside clean
    ∙ sym (ap (λ (x : Objects). cell_at (all x) stack c) made
    ∙ ap (λ (x : List Object). cell_at x stack c) (all-changed (λ p b. given v b) r os)
    ∙ same_cells (all os) (changed_in (λ p b. given v b) r (all os)) stack c (λ at. paint_given v r at (all os) c))

-- the stack, in which one object moves
moved_right : (os : List Object) (stack last : List ObjRef) (r : ObjRef) (found : Option Object) (s t : Surface) → found ≡ object_at r os → t.planes ≡ s.planes → Spoils found s.marks t.marks
    → ((c : ℕ) → paint_at os c r ≡ nothing → risen (paint_at os c) last ((32, 0), 0) ≡ risen (paint_at os c) stack ((32, 0), 0)) → IsRight os stack s → IsRight os last t
moved_right os stack last r found s t e same spoils moves right c inside clean =
    let before : (is_stale s.marks c ≡ false) × (painted c found ≡ nothing) = spoils c inside clean in
    ap (λ (p : Planes). cell_of p c) same ∙ right c inside before.0
    ∙ cell-risen os stack c ∙ sym (ap as_cell (moves c (sym (ap (painted c) e) ∙ before.1))) ∙ sym (cell-risen os last c)

pub right_risen : (os : List Object) (stack last : List ObjRef) (r : ObjRef) (found : Option Object) (s t : Surface) → last ≡ stack ++ r ∷ [] → found ≡ object_at r os → t.planes ≡ s.planes → Spoils found s.marks t.marks → IsRight os stack s → IsRight os last t
right_risen os stack last r found s t made e same spoils right =
    moved_right os stack last r found s t e same spoils (λ c none. ap (λ (x : List ObjRef). risen (paint_at os c) x ((32, 0), 0)) made ∙ risen_top (paint_at os c) stack r ((32, 0), 0) none) right

pub right_fallen : (os : List Object) (stack last : List ObjRef) (r : ObjRef) (found : Option Object) (s t : Surface) → last ≡ without r stack → found ≡ object_at r os → t.planes ≡ s.planes → Spoils found s.marks t.marks → IsRight os stack s → IsRight os last t
right_fallen os stack last r found s t made e same spoils right =
    moved_right os stack last r found s t e same spoils (λ c none. ap (λ (x : List ObjRef). risen (paint_at os c) x ((32, 0), 0)) made ∙ risen_without (paint_at os c) stack r ((32, 0), 0) none) right

pub right_moved : (os : List Object) (stack last : List ObjRef) (r : ObjRef) (how : Reorder) (found : Option Object) (s t : Surface) → last ≡ restacked (stacking.Move r how) stack → found ≡ object_at r os → t.planes ≡ s.planes → Spoils found s.marks t.marks → IsRight os stack s → IsRight os last t
right_moved os stack last r how found s t made e same spoils right =
    moved_right os stack last r found s t e same spoils (λ c none. ap (λ (x : List ObjRef). risen (paint_at os c) x ((32, 0), 0)) made ∙ risen_moved (paint_at os c) stack r how ((32, 0), 0) none) right

-- a scene goes and another comes, of neither of which a reference to the group is

outside : (b : Bool) (g : List ℕ) (os : List Object) → b ≡ true → AreOfOthers b g os → (r : ObjRef) → bytes_eq r.group g ≡ true → object_at r os ≡ None
outside true g os is others = others
outside false g os is others = absurd cc

pub right_exchanged : (g : List ℕ) (os last : Objects) (ps : List Object) (stack rest : List ObjRef) (s t u : Surface) (was is marked : Bool)
    → last ≡ record os { scene = ps } → rest ≡ filter (λ r. bytes_eq r.group g) stack → t.planes ≡ s.planes → u.planes ≡ t.planes
    → SpoilsOthers (all os) g stack s.marks t.marks → SpoilsUnless marked t.marks u.marks → (marked ≡ true → (was ≡ true) × (is ≡ true))
    → AreOfOthers was g os.scene → AreOfOthers is g last.scene → IsRight (all os) stack s → IsRight (all last) rest u
right_exchanged g os last ps stack rest s t u was is marked made kept same same2 first second both own others right c inside clean =
    let behind : (is_stale t.marks c ≡ false) × (marked ≡ true) = second c inside clean in
    let before : (is_stale s.marks c ≡ false) × OthersPaintNothing (paint_at (all os) c) g stack = first c inside behind.0 in
    let found : (r : ObjRef) → bytes_eq r.group g ≡ true → paint_at (all last) c r ≡ paint_at (all os) c r =
    λ r of. ap (painted c)
    (object_at-all r last
    ∙ ap (option_or (object_at r last.application)) (outside is g last.scene (both behind.1).1 others r of)
    ∙ ap (λ (x : Objects). option_or (object_at r x.application) None) made
    ∙ ap (option_or (object_at r os.application)) (sym (outside was g os.scene (both behind.1).0 own r of))
    ∙ sym (object_at-all r os)) in
    ap (λ (p : Planes). cell_of p c) (same2 ∙ same) ∙ right c inside before.0
    ∙ cell-risen (all os) stack c
    ∙ sym (ap as_cell (ap (λ (x : List ObjRef). risen (paint_at (all last) c) x ((32, 0), 0)) kept
    ∙ risen_kept (paint_at (all os) c) (paint_at (all last) c) g stack ((32, 0), 0) before.1 found))
    ∙ sym (cell-risen (all last) rest c)

-- where every cell is stale, nothing is wrong
pub right_stale : (os : List Object) (stack : List ObjRef) (s : Surface) → ((c : ℕ) → c < 2160 → is_stale s.marks c ≡ true) → IsRight os stack s
right_stale os stack s each c inside clean = let never : true ≡ false = sym (each c inside) ∙ clean in absurd cc

pub right_painted : (os : List Object) (stack : List ObjRef) (s : Surface) → s.planes ≡ picture os stack → IsRight os stack s
right_painted os stack s same c inside clean = ap (λ (p : Planes). cell_of p c) same ∙ cell_of-picture (cell_at os stack) c inside

-- where all is painted, it is the picture
pub clean_picture : (os : List Object) (stack : List ObjRef) (s : Surface) → IsWhole s.planes → IsRight os stack s → IsClean s.marks → s.planes ≡ picture os stack
clean_picture os stack s whole right clean = is_picture (cell_at os stack) s.planes whole (λ c inside. right c inside (clean c inside))

pub clean_picture_as : (os : List Object) (stack : List ObjRef) (s : Surface) (p : Planes) → p ≡ s.planes → IsWhole p → IsRight os stack s → IsClean s.marks → p ≡ picture os stack
clean_picture_as os stack s p same whole right clean = same ∙ clean_picture os stack s (subst IsWhole same whole) right clean
