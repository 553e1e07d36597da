-- A scene that takes the place of a stub: the map's insert in the service's words, and the service stays one.
use Rattle.std.proofs.Common.{◌≡◌, ℕ, Bool, true, false, cond, ◌&&◌, not, if◌then◌else◌, List, [], ◌∷◌, map, nat_eq, Option, Some, None, refl, ap, subst, sym, ◌∙◌}
use Rattle.std.specs.Prelude.{Err, Ok, OnErr, OnOk, Result, unwrap_or}
use Rattle.std.specs.List.{find, list_all}
use Rattle.std.specs.Option.{option_map, option_map_or}
use Rattle.std.specs.Str.{bytes_eq}
use Rattle.std.specs.Cmp.Derive.{both_true}
use Rattle.std.specs.Cmp.Lexicographic.{pointwise}
use Rattle.std.proofs.lemmas.Slice.Eq.{bytes_eq-Decides}
use Rattle.indexmap.specs.IndexMap.{insert_entry}
use Rattle.mh_group.specs.declared.class.Class.{Class}
use Rattle.mh_group.specs.declared.class.Class.TheVariants as class
use Rattle.mh_group.specs.declared.written.Written.{Written}
use Rattle.mh_group.specs.Fit.{is_group}
use Rattle.mh_group.specs.Table.{is_application, is_scene}
use Rattle.mh_model.specs.declared.object.Fixed.{Fixed}
use Rattle.mh_model.specs.Configuration.{are_apart, has_keys, has_value, is_group_list, is_group_of, is_service}
use Rattle.mh_model.specs.Effects.{sends_written}
use Rattle.mh_model.specs.First.{put_first}
use Rattle.mh_model.specs.Reference.{group_ref}
use Rattle.mh_model.specs.Service.{Service, group_parts, part_at}
use Rattle.mh_model.proofs.ListLemmas.{and_left, and_right}
use Rattle.mh_model.proofs.ServiceLemmas.{of_service}
use Rattle.mh_service.specs.Limits.{has_room, whole_room}
use Rattle.mh_service.specs.Refusals.{File, has_double_number}
use Rattle.mh_service.specs.Resolved.{group_leads, parts_of}
use Rattle.mh_service.specs.Sealed.{unfilled_by, with_group}
use Rattle.mh_service.specs.declared.sealed.UnfilledWhy.TheVariants as unfilled
use Rattle.mh_service.specs.declared.service_error.Why.TheVariants as why
use Rattle.mh_service.proofs.Lookups.{same_either_way}
use Rattle.mh_service.proofs.PartLemmas.{groups_sent, groups_valued}
use Rattle.mh_service.proofs.ServiceLemmas.{group_apart, group_list}

abbrev Parts : Type 0
Parts = List ℕ × List Fixed

-- the map puts the value where the list does
pub insert_put : {X : Type 0} (name : List ℕ) (x : X) (es : List (List ℕ × X)) → insert_entry (pointwise nat_eq) es name x ≡ put_first (λ e. bytes_eq e.0 name) (name, x) es
insert_put name x [] = refl
insert_put {X} name x (e ∷ es) = by (bytes_eq name e.0) refl (bytes_eq e.0 name) (same_either_way name e.0) (insert_put name x es)
  where
    behind : List (List ℕ × X)
    behind = put_first (λ (y : List ℕ × X). bytes_eq y.0 name) (name, x) es

    by : (b : Bool) → bytes_eq name e.0 ≡ b → (c : Bool) → b ≡ c → insert_entry (pointwise nat_eq) es name x ≡ behind → (if b then (e.0, x) ∷ es else e ∷ insert_entry (pointwise nat_eq) es name x) ≡ (if c then (name, x) ∷ es else e ∷ behind)
    by true own true same more = ap (λ (g : List ℕ). (g, x) ∷ es) (sym ((bytes_eq-Decides name e.0).0 own))
    by true own false same more = cc
    by false own true same more = cc
    by false own false same more = ap (λ (t : List (List ℕ × X)). e ∷ t) more

-- what all pass, and what is put, all pass behind it
all_put : {X : Type 0} (p q : X → Bool) (x : X) (xs : List X) → q x ≡ true → list_all q xs ≡ true → list_all q (put_first p x xs) ≡ true
all_put p q x [] own all = both_true own refl
all_put {X} p q x (y ∷ ys) own all = by (p y) (and_left (q y) (list_all q ys) all) (all_put p q x ys own (and_right (q y) (list_all q ys) all))
  where
    by : (b : Bool) → q y ≡ true → list_all q (put_first p x ys) ≡ true → list_all q (if b then x ∷ ys else y ∷ put_first p x ys) ≡ true
    by true one more = both_true own (and_right (q y) (list_all q ys) all)
    by false one more = both_true one more

-- what is put is not found by another name
found_beside : {X : Type 0} (p q : X → Bool) (x : X) → q x ≡ false → ((y : X) → p y ≡ true → q y ≡ false) → (xs : List X) → find q (put_first p x xs) ≡ find q xs
found_beside p q x none apart [] = rw none refl
found_beside {X} p q x none apart (y ∷ ys) = by (p y) refl (found_beside p q x none apart ys)
  where
    by : (b : Bool) → p y ≡ b → find q (put_first p x ys) ≡ find q ys → find q (if b then x ∷ ys else y ∷ put_first p x ys) ≡ find q (y ∷ ys)
    by true e behind = rw (none, apart y e) refl
    by false e behind = ap (λ (t : Option X). cond (q y) (Some y) t) behind

-- and the parts of another group are what they were
pub parts_beside : (v : Service) (g h : List ℕ) (ps : List Fixed) → bytes_eq g h ≡ false → group_parts (with_group g ps v) h ≡ group_parts v h
parts_beside v g h ps other =
    ap (λ (m : Option Parts). unwrap_or (option_map (λ (e : Parts). e.1) m) [])
    (found_beside (λ (e : Parts). bytes_eq e.0 g) (λ (e : Parts). bytes_eq e.0 h) (g, ps) other (λ e own. subst (λ (n : List ℕ). bytes_eq n h ≡ false) (sym ((bytes_eq-Decides e.0 g).0 own)) other) v.groups)

-- no group is both
never_both : (v : Service) (g : List ℕ) → is_group_of is_scene v g ≡ true → is_group_of is_application v g ≡ true → false ≡ true
never_both v g a b = by (part_at (group_ref g) (group_parts v g)) a b
  where
    apart : (c : Class) → is_scene c ≡ true → is_application c ≡ true → false ≡ true
    apart class.Scene h k = k
    apart _ h k = absurd cc

    by : (m : Option Fixed) → option_map_or (λ (p : Fixed). is_scene p.class) m false ≡ true → option_map_or (λ (p : Fixed). is_application p.class) m false ≡ true → false ≡ true
    by None h k = h
    by (Some p) h k = apart p.class h k

-- the start is no scene, and stays an application
start_stays : (v : Service) (g : List ℕ) (ps : List Fixed) → is_group_of is_scene v g ≡ true → is_group_of is_application v v.start ≡ true → is_group_of is_application (with_group g ps v) v.start ≡ true
start_stays v g ps scene start = by (bytes_eq g v.start) refl
  where
    never : false ≡ true → is_group_of is_application (with_group g ps v) v.start ≡ true
    never h = absurd cc

    by : (b : Bool) → bytes_eq g v.start ≡ b → is_group_of is_application (with_group g ps v) v.start ≡ true
    by true e = never (never_both v v.start (subst (λ (n : List ℕ). is_group_of is_scene v n ≡ true) ((bytes_eq-Decides g v.start).0 e) scene) start)
    by false e =
        let found = found_beside (λ (y : Parts). bytes_eq y.0 g) (λ (y : Parts). bytes_eq y.0 v.start) (g, ps) e (λ y own. subst (λ (n : List ℕ). bytes_eq n v.start ≡ false) (sym ((bytes_eq-Decides y.0 g).0 own)) e) v.groups in
        ap (λ (m : Option Parts). option_map_or (λ (p : Fixed). is_application p.class) (part_at (group_ref v.start) (unwrap_or (option_map (λ (y : Parts). y.1) m) [])) false) found ∙ start

-- what is not refused is a scene of its own numbers
record Fits (v : Service) (g : List ℕ) (w : Written) : Type 0 where
  scene : is_group_of is_scene v g ≡ true
  numbers : has_double_number w ≡ false

fits_of : (v : Service) (g : List ℕ) (w : Written) → unfilled_by v g w ≡ None → Fits v g w
fits_of v g w e = by (is_group_of is_scene v g) refl (is_scene w.class) (has_double_number w) refl e
  where
    by : (a : Bool) → is_group_of is_scene v g ≡ a → (b c : Bool) → has_double_number w ≡ c → (if not (a && b) then Some unfilled.NotAScene else (if c then Some (unfilled.Unfit why.DoubleNumber) else (if not (has_room whole_room w) then Some (unfilled.Unfit why.Limit) else (if not (group_leads g w) then Some (unfilled.Unfit why.BadReference) else None)))) ≡ None → Fits v g w
    by true scene true false numbers e = record { scene = scene; numbers = numbers }
    by true scene true true numbers e = absurd cc
    by true scene false c numbers e = absurd cc
    by false scene b c numbers e = absurd cc

pub stays_service : (v : Service) (g : List ℕ) (w : Written) → is_service v ≡ true → is_group w ≡ true → unfilled_by v g w ≡ None → is_service (with_group g (parts_of g w) v) ≡ true
unfolding is_service
stays_service v g w is group none =
    let of = of_service v is in
    let put : Parts = (g, parts_of g w) in
    let own : Parts → Bool = λ (e : Parts). bytes_eq e.0 g in
    let one : list_all (λ (f : File). is_group f.1) ((g, w) ∷ []) ≡ true = both_true group refl in
    both_true (both_true (both_true
    (all_put own (λ (e : Parts). is_group_list e.0 e.1) put v.groups (group_list g w group) of.lists)
    (start_stays v g (parts_of g w) (fits_of v g w none).scene of.start))
    (all_put own (λ (e : Parts). list_all has_value e.1) put v.groups (and_left _ true (groups_valued ((g, w) ∷ []) one)) of.values))
    (all_put own (λ (e : Parts). list_all sends_written e.1) put v.groups (and_left _ true (groups_sent ((g, w) ∷ []) one)) of.sends)

pub stays_keyed : (v : Service) (g : List ℕ) (w : Written) → has_keys v ≡ true → is_group w ≡ true → unfilled_by v g w ≡ None → has_keys (with_group g (parts_of g w) v) ≡ true
unfolding has_keys
stays_keyed v g w keys group none = all_put (λ (e : Parts). bytes_eq e.0 g) (λ (e : Parts). are_apart e.1) (g, parts_of g w) v.groups (group_apart g w group (fits_of v g w none).numbers) keys

-- and so does what a put that may be refused memory leaves
pub fills : {E : Type 0} (r : Result Unit E) (v : Service) (g : List ℕ) (w : Written) (ps : List Fixed) (es : List Parts) → is_service v ≡ true → has_keys v ≡ true → is_group w ≡ true → unfilled_by v g w ≡ None → ps ≡ parts_of g w → OnOk r (es ≡ put_first (λ e. bytes_eq e.0 g) (g, ps) v.groups) → OnErr r (es ≡ v.groups) → (is_service (record v { groups = es }) ≡ true) × (has_keys (record v { groups = es }) ≡ true)
fills (Ok u) v g w ps es is keys group none of put kept =
    let same = put ∙ ap (λ (qs : List Fixed). put_first (λ (e : Parts). bytes_eq e.0 g) (g, qs) v.groups) of in (
      subst (λ (xs : List Parts). is_service (record v { groups = xs }) ≡ true) (sym same) (stays_service v g w is group none),
      subst (λ (xs : List Parts). has_keys (record v { groups = xs }) ≡ true) (sym same) (stays_keyed v g w keys group none),
    )
fills (Err x) v g w ps es is keys group none of put kept = (
  subst (λ (xs : List Parts). is_service (record v { groups = xs }) ≡ true) (sym kept) is,
  subst (λ (xs : List Parts). has_keys (record v { groups = xs }) ≡ true) (sym kept) keys,
)
