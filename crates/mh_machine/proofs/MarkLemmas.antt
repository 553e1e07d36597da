-- Beside several objects that are marked, the picture stays as it was.
use Rattle.std.specs.Prelude.{◌≡◌, ℕ, ◌<◌, ◌||◌, ◌&&◌, Bool, true, false, not, if◌then◌else◌, List, [], ◌∷◌, ◌++◌, ◌==◌, length, map, Option, Some, None, refl}
use Rattle.std.specs.List.{list_any}
use Rattle.std.specs.Option.{option_map, option_map_or}
use Rattle.std.specs.Str.{bytes_eq}
use Rattle.std.proofs.Common.{arith, suc, ap, ◌∙◌, sym, subst, ⊎_elim}
use Rattle.std.proofs.lemmas.Bool.{cases_Bool, eqb-true, false≢true}
use Rattle.std.proofs.lemmas.List.{map-append}
use Rattle.mh_base.specs.declared.obj_ref.ObjRef.{ObjRef}
use Rattle.mh_group.specs.declared.written.Position.{Position}
use Rattle.mh_group.specs.Table.{is_visible}
use Rattle.mh_display.specs.Surface.{Surface, is_stale, IsRight, IsStale, Spoils}
use Rattle.mh_model.specs.declared.object.Body.{Body}
use Rattle.mh_model.specs.declared.object.Fixed.{Fixed}
use Rattle.mh_model.specs.declared.object.Object.{Object}
use Rattle.mh_model.specs.declared.edit.Edit.{Edit}
use Rattle.mh_model.specs.Bodies.{brought}
use Rattle.mh_model.specs.Edits.{edited}
use Rattle.mh_model.specs.Looks.{Paint, nothing, paint_in}
use Rattle.mh_model.specs.Picture.{cell_of, is_seen, painted, paint_at}
use Rattle.mh_model.specs.Planes.{Planes}
use Rattle.mh_model.specs.Reference.{same_ref}
use Rattle.mh_model.specs.Rules.{is_at, on_body, changed_in, changed, all_placed, placed_at, text_brought, with_text}
use Rattle.mh_model.specs.Service.{object_at}
use Rattle.mh_model.specs.State.{Objects, all}
use Rattle.mh_model.proofs.ServiceLemmas.{same_ref-same}
use Rattle.mh_store.proofs.PlacingLemmas.{all-changed}
use Rattle.mh_store.specs.Places.{is_among}
use Rattle.mh_machine.specs.Marks.{SpoilsEach, SpoilsOthers}
use Rattle.mh_machine.proofs.StageLemmas.{same_cells, found_changed, paint_changed}

-- One after another they are marked.

pub spoils_none : (os : List Object) (s t : List ℕ) → s ≡ t → SpoilsEach os [] s t
spoils_none os s t same c inside clean = (ap (λ (m : List ℕ). is_stale m c) same ∙ clean, λ r never. absurd (false≢true never))

among_more : (rs : List ObjRef) (q r : ObjRef) → is_among (rs ++ q ∷ []) r ≡ (is_among rs r || same_ref r q)
among_more [] q r = or_false (same_ref r q)
  where
    or_false : (b : Bool) → (b || false) ≡ b
    or_false true = refl
    or_false false = refl
among_more (x ∷ rs) q r = ap (λ (b : Bool). same_ref r x || b) (among_more rs q r) ∙ assoc (same_ref r x) (is_among rs r) (same_ref r q)
  where
    assoc : (a b d : Bool) → (a || (b || d)) ≡ ((a || b) || d)
    assoc true b d = refl
    assoc false b d = refl

pub spoils_more : (os : List Object) (rs : List ObjRef) (q : ObjRef) (s t u : List ℕ) → SpoilsEach os rs s t → Spoils (object_at q os) t u → SpoilsEach os (rs ++ q ∷ []) s u
spoils_more os rs q s t u before next c inside clean =
    let last = next c inside clean in
    let first = before c inside last.0 in
    (first.0, λ r is. by r (is_among rs r) (same_ref r q) (first.1 r) (λ e. subst (λ (y : ObjRef). paint_at os c y ≡ nothing) (sym (same_ref-same r q e)) last.1) (sym (among_more rs q r) ∙ is))
  where
    by : (r : ObjRef) (a b : Bool) → (a ≡ true → paint_at os c r ≡ nothing) → (b ≡ true → paint_at os c r ≡ nothing) → (a || b) ≡ true → paint_at os c r ≡ nothing
    by r true b first other is = first refl
    by r false b first other is = other is

pub each_spoilt : (rs : List ObjRef) (os : List Object) (stack : List ObjRef) (s t : Surface) → t.planes ≡ s.planes → SpoilsEach os rs s.marks t.marks → IsRight os stack s → IsRight os stack t
each_spoilt rs os stack s t same spoils right c inside clean = ap (λ (p : Planes). cell_of p c) same ∙ right c inside (spoils c inside clean).0

-- Those of other groups are marked, the first and then what is left.

pub others_first : (os : List Object) (g : List ℕ) (q : ObjRef) (rs : List ObjRef) (s t u : List ℕ) → SpoilsOthers os g (q ∷ []) s t → SpoilsOthers os g rs t u → SpoilsOthers os g (q ∷ rs) s u
others_first os g q rs s t u first others c inside clean =
    let last = others c inside clean in
    let before = first c inside last.0 in
    (before.0, (before.1.0, last.1))

-- one alone: it is marked, or it is of the group
pub other_marked : (os : List Object) (g : List ℕ) (q : ObjRef) (s t : List ℕ) → Spoils (object_at q os) s t → SpoilsOthers os g (q ∷ []) s t
other_marked os g q s t spoils c inside clean =
    let marked = spoils c inside clean in
    (marked.0, (λ other. marked.1, tt))

pub own_stays : (os : List Object) (g : List ℕ) (q : ObjRef) (s : List ℕ) → bytes_eq q.group g ≡ true → SpoilsOthers os g (q ∷ []) s s
own_stays os g q s own c inside clean = (clean, (λ other. absurd (false≢true (sym other ∙ own)), tt))

pub others_none : (os : List Object) (g : List ℕ) (s : List ℕ) → SpoilsOthers os g [] s s
others_none os g s c inside clean = (clean, tt)

-- where all are stale, they are
pub others_stale : (os : List Object) (g : List ℕ) (rs : List ObjRef) (s : List ℕ) → IsStale s → SpoilsOthers os g rs s s
others_stale os g rs s each c inside clean = absurd (false≢true (sym clean ∙ each c inside))

-- What they are changed to can be seen in them alone.

pub right_each : (rs : List ObjRef) (os after : List Object) (stack : List ObjRef) (s t u : Surface) → t.planes ≡ s.planes → u.planes ≡ t.planes → SpoilsEach os rs s.marks t.marks → SpoilsEach after rs t.marks u.marks
    → ((r : ObjRef) (c : ℕ) → is_among rs r ≡ false → paint_at after c r ≡ paint_at os c r) → IsRight os stack s → IsRight after stack u
right_each rs os after stack s t u same same2 first second others right c inside clean =
    let behind = second c inside clean in
    let before = first c inside behind.0 in
    let each : (r : ObjRef) → paint_at after c r ≡ paint_at os c r = λ r. ⊎_elim (λ yes. behind.1 r yes ∙ sym (before.1 r yes)) (λ other. others r c other) (cases_Bool (is_among rs r)) in
    ap (λ (p : Planes). cell_of p c) (same2 ∙ same) ∙ right c inside before.0 ∙ sym (same_cells os after stack c each)

-- A text is brought to them.

pub is_none : {X : Type 0} (xs : List X) (b : Bool) → b ≡ (length xs == 0) → b ≡ true → xs ≡ []
is_none [] b e is = refl
is_none (x ∷ xs) b e is = let zero : suc (length xs) ≡ 0 = eqb-true (suc (length xs)) 0 (sym e ∙ is) in absurd (omega (arith, zero))

brought_elsewhere : (is : ObjRef → Bool) (text : List ℕ) (r : ObjRef) (os : List Object) → is r ≡ false → object_at r (with_text is text os) ≡ object_at r os
brought_elsewhere is text r [] other = refl
brought_elsewhere is text r (o ∷ os) other =
    by (is o.fixed.key) (is_at r o) refl refl (brought_elsewhere is text r os other)
  where
    by : (b d : Bool) → is o.fixed.key ≡ b → is_at r o ≡ d → object_at r (with_text is text os) ≡ object_at r os
        → object_at r ((if b then record o { body = brought text o.body } else o) ∷ with_text is text os) ≡ object_at r (o ∷ os)
    by false true i a below = ap (λ (t : Bool). if t then Some o else object_at r (with_text is text os)) a ∙ sym (ap (λ (t : Bool). if t then Some o else object_at r os) a)
    by true true i a below = absurd (false≢true (sym other ∙ ap is (same_ref-same r o.fixed.key a) ∙ i))
    by true false i a below =
        ap (λ (t : Bool). if t then Some (record o { body = brought text o.body }) else object_at r (with_text is text os)) a
        ∙ below ∙ sym (ap (λ (t : Bool). if t then Some o else object_at r os) a)
    by false false i a below =
        ap (λ (t : Bool). if t then Some o else object_at r (with_text is text os)) a
        ∙ below ∙ sym (ap (λ (t : Bool). if t then Some o else object_at r os) a)

pub brought_paint : (rs : List ObjRef) (text : List ℕ) (os last : Objects) → last ≡ text_brought (is_among rs) text os → (r : ObjRef) (c : ℕ) → is_among rs r ≡ false → paint_at (all last) c r ≡ paint_at (all os) c r
brought_paint rs text os last made r c other =
    ap (painted c)
    (ap (λ (x : Objects). object_at r (all x)) made
    ∙ ap (object_at r) (sym (map-append (λ (o : Object). if is_among rs o.fixed.key then record o { body = brought text o.body } else o) os.application os.scene))
    ∙ brought_elsewhere (is_among rs) text r (all os) other)

with_none : (text : List ℕ) (os : List Object) → with_text (is_among []) text os ≡ os
with_none text [] = refl
with_none text (o ∷ os) = ap (λ (xs : List Object). o ∷ xs) (with_none text os)

pub brought_to_none : (text : List ℕ) (os : Objects) → os ≡ text_brought (is_among []) text os
brought_to_none text os = λ i. record { application = sym (with_none text os.application) i; scene = sym (with_none text os.scene) i }

-- They are placed.

placed_elsewhere : (f : Fixed → Body → Body) (q r : ObjRef) (os : List Object) → same_ref r q ≡ false → object_at r (changed_in f q os) ≡ object_at r os
placed_elsewhere f q r [] other = refl
placed_elsewhere f q r (o ∷ os) other = by (is_at q o) refl (placed_elsewhere f q r os other)
  where
    by : (b : Bool) → is_at q o ≡ b → object_at r (changed_in f q os) ≡ object_at r os → object_at r (if b then on_body f o ∷ os else o ∷ changed_in f q os) ≡ object_at r (o ∷ os)
    by true e below =
        let apart : is_at r o ≡ false = subst (λ (y : ObjRef). same_ref r y ≡ false) (same_ref-same q o.fixed.key e) other in
        ap (λ (t : Bool). if t then Some (on_body f o) else object_at r os) apart ∙ sym (ap (λ (t : Bool). if t then Some o else object_at r os) apart)
    by false e below = ap (λ (x : Option Object). if is_at r o then Some o else x) below

parts_of_or : (a b : Bool) → (a || b) ≡ false → (a ≡ false) × (b ≡ false)
parts_of_or false b e = (refl, e)
parts_of_or true b e = absurd (false≢true (sym e))

all_placed_elsewhere : (ps : List (ObjRef × Position)) (os : Objects) (r : ObjRef) → is_among (map (λ p. p.0) ps) r ≡ false → object_at r (all (all_placed ps os)) ≡ object_at r (all os)
all_placed_elsewhere [] os r other = refl
all_placed_elsewhere (p ∷ ps) os r other =
    let apart = parts_of_or (same_ref r p.0) (is_among (map (λ q. q.0) ps) r) other in
    all_placed_elsewhere ps (changed (placed_at p.1) p.0 os) r apart.1
    ∙ ap (object_at r) (all-changed (placed_at p.1) p.0 os)
    ∙ placed_elsewhere (placed_at p.1) p.0 r (all os) apart.0

unseen : (c : ℕ) (o : Option Object) → option_map_or (λ (x : Object). is_visible x.fixed.class) o false ≡ false → painted c o ≡ nothing
unseen c None hidden = refl
unseen c (Some o) hidden = ap (λ (b : Bool). if b && o.body.available && o.body.running then paint_in o c else nothing) hidden

unseen_behind : (c : ℕ) (f : Fixed → Body → Body) (o : Option Object) → option_map_or (λ (x : Object). is_visible x.fixed.class) o false ≡ false → painted c (option_map (on_body f) o) ≡ nothing
unseen_behind c f None hidden = refl
unseen_behind c f (Some o) hidden = unseen c (Some (on_body f o)) hidden

pub placed_paint : (at : ObjRef) (e : Edit) (ps : List (ObjRef × Position)) (os last : Objects) → option_map_or (λ (o : Object). is_visible o.fixed.class) (object_at at (all os)) false ≡ false → last ≡ all_placed ps (changed (edited e) at os)
    → (r : ObjRef) (c : ℕ) → is_among (map (λ p. p.0) ps) r ≡ false → paint_at (all last) c r ≡ paint_at (all os) c r
placed_paint at e ps os last hidden made r c other =
    ap (painted c)
    (ap (λ (x : Objects). object_at r (all x)) made
    ∙ all_placed_elsewhere ps (changed (edited e) at os) r other
    ∙ ap (object_at r) (all-changed (edited e) at os))
    ∙ paint_changed (edited e) at (all os) c (unseen c (object_at at (all os)) hidden) (unseen_behind c (edited e) (object_at at (all os)) hidden) r
