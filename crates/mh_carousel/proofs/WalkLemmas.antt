-- From place to place, and place by place.
use Rattle.std.proofs.Common.{◌≡◌, ℕ, zero, suc, ◌+◌, ◌<◌, ◌≤◌, Bool, true, false, ◌&&◌, not, cond, if◌then◌else◌, List, [], ◌∷◌, ◌++◌, map, filter, length, get_or, reverse, slice_get, take, Option, Some, None, refl, ap, sym, subst, ◌∙◌, true≢false, arith}
use Rattle.std.specs.Prelude.{⊤, nat_eq, nat_le}
use Rattle.std.specs.Cmp.{nat_eq_equiv}
use Rattle.std.specs.Cmp.Lexicographic.{nat_list_eq_equiv}
use Rattle.std.specs.List.{IsDistinct}
use Rattle.std.specs.Map.{keys_of, lookup}
use Rattle.std.specs.Option.{is_some, option_map, option_map_or, unwrap_or}
use Rattle.std.specs.Str.{bytes_eq}
use Rattle.std.proofs.lemmas.Bool.Decides.{Decides-eqb, nat_tests}
use Rattle.std.proofs.lemmas.List.{append-nil, append_assoc, length-take, map-append, reverse-append, take_all, take_more}
use Rattle.std.proofs.lemmas.List.Elements.{filter-append}
use Rattle.std.proofs.lemmas.List.Sums.{fold-append}
use Rattle.std.proofs.lemmas.Map.Entries.{lookup_from_place}
use Rattle.std.proofs.lemmas.Option.{get_or_from_slice_get, slice_get_within}
use Rattle.indexmap.specs.IndexSet.{insert_all, insert_key}
use Rattle.mh_base.specs.declared.obj_ref.ObjRef.{ObjRef}
use Rattle.mh_model.specs.declared.file.Wait.{Wait}
use Rattle.mh_model.specs.Files.{forgotten}
use Rattle.mh_model.specs.Reference.{same_key, same_ref}
use Rattle.mh_carousel.specs.Carried.{awaited_names, waiting_for}
use Rattle.mh_carousel.specs.declared.slot.Chain.{Chain}
use Rattle.mh_carousel.specs.declared.slot.Slot.{Slot}
use Rattle.mh_carousel.specs.Waited.{Objects, Names, is_place, wait_of, wait_at, waits_from, waits_before, name_of, name_at, newest_of, IsLast, LeadsBack, AreLinked, joined}
use Rattle.mh_carousel.proofs.PlaceLemmas.{same_key-equiv, same_key-same, same_ref-key, filtered_from, waits_append}

-- The places up to the next one

abbrev pub up_to : Option ℕ → ℕ
up_to None = 0
up_to (Some p) = p + 1

-- the next place is one of the file
abbrev pub IsNext : Names → List Slot → List ℕ → Option ℕ → Type 0
IsNext ns ss name None = ⊤
IsNext ns ss name (Some p) = name_at ns ss p ≡ Some name

abbrev pub objects_of : List Wait → List ObjRef
objects_of ws = map (λ w. w.object) ws

-- the objects at the places up to the next one, and then those that were found, are all
abbrev pub AreFound : Objects → Names → List Slot → List ℕ → Option ℕ → List ObjRef → Type 0
AreFound os ns ss name next found =
    (objects_of (waits_before os ns ss name (up_to next)) ++ reverse found ≡ waiting_for name (waits_from os ns 0 ss)) × IsNext ns ss name next

last_up_to : (os : Objects) (ns : Names) (ss : List Slot) (name : List ℕ) (bound : ℕ) (at : Option ℕ) → IsLast os ns ss name bound at → waits_before os ns ss name (up_to at) ≡ waits_before os ns ss name bound
last_up_to os ns ss name bound None is = sym is
last_up_to os ns ss name bound (Some p) is = sym is.2

last_next : (os : Objects) (ns : Names) (ss : List Slot) (name : List ℕ) (bound : ℕ) (at : Option ℕ) → IsLast os ns ss name bound at → IsNext ns ss name at
last_next os ns ss name bound None is = tt
last_next os ns ss name bound (Some p) is = is.1

pub none_found : (os : Objects) (ns : Names) (ss : List Slot) (name : List ℕ) (next : Option ℕ) (found : List ObjRef) → AreLinked os ns ss → next ≡ newest_of (lookup (bytes_eq name) ns) → found ≡ [] → AreFound os ns ss name next found
none_found os ns ss name next found linked is none =
    let last : IsLast os ns ss name (length ss) next = subst (IsLast os ns ss name (length ss)) (sym is) (linked.newest name) in (
      ap (λ (rs : List ObjRef). objects_of (waits_before os ns ss name (up_to next)) ++ reverse rs) none
          ∙ append-nil (objects_of (waits_before os ns ss name (up_to next)))
          ∙ ap objects_of (last_up_to os ns ss name (length ss) next last)
          ∙ ap (λ (ts : List Slot). waiting_for name (waits_from os ns 0 ts)) (take_all (length ss) ss (omega arith)),
      last_next os ns ss name (length ss) next last,
    )

-- there is a place, and it is one of the file
pub next_within : (ns : Names) (ss : List Slot) (name : List ℕ) (p : ℕ) → name_at ns ss p ≡ Some name → p < length ss
next_within ns ss name p = by (slice_get ss p) refl
  where
    by : (o : Option Slot) → slice_get ss p ≡ o → option_map_or (name_of ns) o None ≡ Some name → p < length ss
    by None at is = absurd (true≢false (sym (ap is_some is)))
    by (Some s) at is = slice_get_within ss p s at

named : (os : Objects) (ns : Names) (p : ℕ) (s : Slot) (name : List ℕ) → name_of ns s ≡ Some name → filter (λ (w : Wait). bytes_eq w.name name) (wait_at os ns p s) ≡ wait_at os ns p s
named os ns p s name is = by (slice_get os s.object) (slice_get ns s.name) is
  where
    by : (o : Option (ObjRef × Option ℕ)) (n : Option (List ℕ × Chain)) → option_map (λ e. e.0) n ≡ Some name → filter (λ (w : Wait). bytes_eq w.name name) (wait_of p o n) ≡ wait_of p o n
    by None n same = refl
    by (Some o) None same = refl
    by (Some o) (Some n) same = here (is_place p o.1 && nat_le n.1.from p)
      where
        one : Wait
        one = record { object = o.0; name = n.0 }

        own : bytes_eq n.0 name ≡ true
        own = ap (λ (x : Option (List ℕ)). bytes_eq (unwrap_or x name) name) same ∙ nat_list_eq_equiv.refl name

        here : (t : Bool) → filter (λ (w : Wait). bytes_eq w.name name) (if t then one ∷ [] else []) ≡ (if t then one ∷ [] else [])
        here true = ap (λ (b : Bool). cond b (one ∷ []) []) own
        here false = refl

-- the places up to this one, and this one
before_more : (os : Objects) (ns : Names) (ss : List Slot) (name : List ℕ) (p : ℕ) (s : Slot) → slice_get ss p ≡ Some s → name_of ns s ≡ Some name → waits_before os ns ss name (p + 1) ≡ waits_before os ns ss name p ++ wait_at os ns p s
before_more os ns ss name p s at is =
    let within : p < length ss = slice_get_within ss p s at in
    let so_many : 0 + length (take p ss) ≡ p = omega (arith, within, length-take p ss) in
    ap (λ (ts : List Slot). filter (λ (w : Wait). bytes_eq w.name name) (waits_from os ns 0 ts)) (take_more ss p s within ∙ ap (λ (x : Slot). take p ss ++ x ∷ []) (get_or_from_slice_get ss p s s at))
    ∙ ap (filter (λ (w : Wait). bytes_eq w.name name)) (waits_append os ns (take p ss) (s ∷ []) 0 ∙ ap (λ (k : ℕ). waits_from os ns 0 (take p ss) ++ (wait_at os ns k s ++ [])) so_many ∙ ap (λ (ws : List Wait). waits_from os ns 0 (take p ss) ++ ws) (append-nil (wait_at os ns p s)))
    ∙ filter-append (λ w. bytes_eq w.name name) (waits_from os ns 0 (take p ss)) (wait_at os ns p s)
    ∙ ap (λ (ws : List Wait). waits_before os ns ss name p ++ ws) (named os ns p s name is)

module _ (os : Objects) (ns : Names) (ss : List Slot) (name : List ℕ) (linked : AreLinked os ns ss) (p : ℕ) (s : Slot) (at : slice_get ss p ≡ Some s) (is : name_at ns ss p ≡ Some name) where
  own : name_of ns s ≡ Some name
  own = sym (ap (λ (o : Option Slot). option_map_or (name_of ns) o None) at) ∙ is

  back : IsLast os ns ss name p s.older
  back = subst (LeadsBack os ns ss p s) own (linked.older p s at)

  -- the objects of the places up to this one
  objects_more : objects_of (waits_before os ns ss name (p + 1)) ≡ objects_of (waits_before os ns ss name (up_to s.older)) ++ objects_of (wait_at os ns p s)
  objects_more =
      ap objects_of (before_more os ns ss name p s at own)
      ∙ map-append (λ (w : Wait). w.object) (waits_before os ns ss name p) (wait_at os ns p s)
      ∙ ap (λ (ws : List Wait). objects_of ws ++ objects_of (wait_at os ns p s)) (sym (last_up_to os ns ss name p s.older back))

  -- one waits at a place at most
  turned : reverse (objects_of (wait_at os ns p s)) ≡ objects_of (wait_at os ns p s)
  turned = by (slice_get os s.object) (slice_get ns s.name)
    where
      by : (o : Option (ObjRef × Option ℕ)) (n : Option (List ℕ × Chain)) → reverse (objects_of (wait_of p o n)) ≡ objects_of (wait_of p o n)
      by None n = refl
      by (Some o) None = refl
      by (Some o) (Some n) = here (is_place p o.1 && nat_le n.1.from p)
        where
          here : (t : Bool) → reverse (objects_of (if t then record { object = o.0; name = n.0 } ∷ [] else [])) ≡ objects_of (if t then record { object = o.0; name = n.0 } ∷ [] else [])
          here true = refl
          here false = refl

  pub found_more : (found more : List ObjRef) → more ≡ found ++ objects_of (wait_at os ns p s) → AreFound os ns ss name (Some p) found → AreFound os ns ss name s.older more
  found_more found more pushed so_far = (
    ap (λ (rs : List ObjRef). objects_of (waits_before os ns ss name (up_to s.older)) ++ rs) (ap reverse pushed ∙ reverse-append found (objects_of (wait_at os ns p s)) ∙ ap (λ (rs : List ObjRef). rs ++ reverse found) turned)
        ∙ sym (append_assoc (objects_of (waits_before os ns ss name (up_to s.older))) (objects_of (wait_at os ns p s)) (reverse found))
        ∙ ap (λ (rs : List ObjRef). rs ++ reverse found) (sym objects_more)
        ∙ so_far.0,
    last_next os ns ss name p s.older back,
  )

  pub nearer : up_to s.older < p + 1
  nearer = by s.older back
    where
      by : (o : Option ℕ) → IsLast os ns ss name p o → up_to o < p + 1
      by None was = omega arith
      by (Some q) was = omega (arith, was.0)

-- Place by place

-- the next place
pub next_waits : (os : Objects) (ns : Names) (ss : List Slot) (p : ℕ) (s : Slot) → slice_get ss p ≡ Some s → waits_from os ns 0 (take (p + 1) ss) ≡ waits_from os ns 0 (take p ss) ++ wait_at os ns p s
next_waits os ns ss p s at =
    let within : p < length ss = slice_get_within ss p s at in
    let so_many : 0 + length (take p ss) ≡ p = omega (arith, within, length-take p ss) in
    ap (waits_from os ns 0) (take_more ss p s within ∙ ap (λ (x : Slot). take p ss ++ x ∷ []) (get_or_from_slice_get ss p s s at))
    ∙ waits_append os ns (take p ss) (s ∷ []) 0
    ∙ ap (λ (k : ℕ). waits_from os ns 0 (take p ss) ++ (wait_at os ns k s ++ [])) so_many
    ∙ ap (λ (ws : List Wait). waits_from os ns 0 (take p ss) ++ ws) (append-nil (wait_at os ns p s))

-- and the file that is waited for there
pub next_awaited : (os : Objects) (ns : Names) (ss : List Slot) (p : ℕ) (s : Slot) → slice_get ss p ≡ Some s
    → insert_all bytes_eq (awaited_names (waits_from os ns 0 (take p ss))) (map (λ w. w.name) (wait_at os ns p s)) ≡ awaited_names (waits_from os ns 0 (take (p + 1) ss))
next_awaited os ns ss p s at =
    sym (fold-append (insert_key bytes_eq) [] (map (λ (w : Wait). w.name) (waits_from os ns 0 (take p ss))) (map (λ (w : Wait). w.name) (wait_at os ns p s)))
    ∙ ap (insert_all bytes_eq []) (sym (map-append (λ (w : Wait). w.name) (waits_from os ns 0 (take p ss)) (wait_at os ns p s)))
    ∙ ap awaited_names (sym (next_waits os ns ss p s at))

abbrev has_two : List Wait → Bool
has_two [] = false
has_two (w ∷ []) = false
has_two (w ∷ x ∷ ws) = true

-- an object waits at one place
module _ (os : Objects) (ns : Names) (ss : List Slot) (apart : IsDistinct same_key (keys_of os)) where
  value_at : (i : ℕ) (o : ObjRef × Option ℕ) → slice_get os i ≡ Some o → lookup (same_key o.0) os ≡ Some o.1
  value_at i o at = lookup_from_place same_key-equiv os i o.0 o.1 apart at

  place_is : (p : ℕ) (v : Option ℕ) → is_place p v ≡ true → v ≡ Some p
  place_is p None is = absurd (true≢false (sym is))
  place_is p (Some q) is = ap (λ (k : ℕ). Some k) ((Decides-eqb q p).0 is)

  some_nat : (m n : ℕ) → Some m ≡ Some n → m ≡ n
  some_nat m n is = ap (λ (o : Option ℕ). unwrap_or o m) is

  and_left : (a b : Bool) → (a && b) ≡ true → a ≡ true
  and_left true b h = refl
  and_left false b h = absurd (true≢false (sym h))

  -- what stands here is an object's last place
  at_last : (p : ℕ) (s : Slot) (w : Wait) → wait_at os ns p s ≡ w ∷ [] → lookup (same_key w.object) os ≡ Some (Some p)
  at_last p s w = by (slice_get os s.object) (slice_get ns s.name) (value_at s.object)
    where
      is_any : List Wait → Bool
      is_any [] = false
      is_any (x ∷ xs) = true

      by : (o : Option (ObjRef × Option ℕ)) (n : Option (List ℕ × Chain)) → ((e : ObjRef × Option ℕ) → o ≡ Some e → lookup (same_key e.0) os ≡ Some e.1) → wait_of p o n ≡ w ∷ [] → lookup (same_key w.object) os ≡ Some (Some p)
      by None n value is = absurd (true≢false (sym (ap is_any is)))
      by (Some o) None value is = absurd (true≢false (sym (ap is_any is)))
      by (Some o) (Some n) value is = here (is_place p o.1 && nat_le n.1.from p) refl is
        where
          here : (t : Bool) → (is_place p o.1 && nat_le n.1.from p) ≡ t → (if t then record { object = o.0; name = n.0 } ∷ [] else []) ≡ w ∷ [] → lookup (same_key w.object) os ≡ Some (Some p)
          here true stands same =
              let object : o.0 ≡ w.object = ap (λ (ws : List Wait). (get_or ws 0 w).object) same in
              ap (λ (r : ObjRef). lookup (same_key r) os) (sym object) ∙ value o refl
              ∙ ap (λ (v : Option ℕ). Some v) (place_is p o.1 (and_left (is_place p o.1) (nat_le n.1.from p) stands))
          here false stands same = absurd (true≢false (sym (ap is_any same)))

  -- so nobody before is the same
  each_other : (p : ℕ) (r : ObjRef) → lookup (same_key r) os ≡ Some (Some p) → (q : ℕ) (s : Slot) → q < p → wait_at os ns q s ≡ filter (λ w. not (same_ref r w.object)) (wait_at os ns q s)
  each_other p r last q s before = by (slice_get os s.object) (slice_get ns s.name) (value_at s.object)
    where
      by : (o : Option (ObjRef × Option ℕ)) (n : Option (List ℕ × Chain)) → ((e : ObjRef × Option ℕ) → o ≡ Some e → lookup (same_key e.0) os ≡ Some e.1) → wait_of q o n ≡ filter (λ w. not (same_ref r w.object)) (wait_of q o n)
      by None n value = refl
      by (Some o) None value = refl
      by (Some o) (Some n) value = here (is_place q o.1 && nat_le n.1.from q) refl (same_key r o.0) refl
        where
          one : Wait
          one = record { object = o.0; name = n.0 }

          here : (t : Bool) → (is_place q o.1 && nat_le n.1.from q) ≡ t → (b : Bool) → same_key r o.0 ≡ b → (if t then one ∷ [] else []) ≡ filter (λ (w : Wait). not (same_ref r w.object)) (if t then one ∷ [] else [])
          here false stands b same = refl
          here true stands false same = ap (λ (t : Bool). cond (not t) (one ∷ []) []) (sym (same_ref-key r o.0 ∙ same))
          here true stands true same =
              let object : r ≡ o.0 = same_key-same r o.0 same in
              let place : o.1 ≡ Some q = place_is q o.1 (and_left (is_place q o.1) (nat_le n.1.from q) stands) in
              let twice : Some (Some p) ≡ Some (Some q) = sym last ∙ ap (λ (x : ObjRef). lookup (same_key x) os) object ∙ value o refl ∙ ap (λ (v : Option ℕ). Some v) place in
              let both : p ≡ q = some_nat p q (ap (λ (v : Option (Option ℕ)). unwrap_or v None) twice) in
              absurd (omega (arith, both, before))

  pub none_before : (p : ℕ) (s : Slot) (w : Wait) → wait_at os ns p s ≡ w ∷ [] → forgotten w.object (waits_from os ns 0 (take p ss)) ≡ waits_from os ns 0 (take p ss)
  none_before p s w here =
      sym (filtered_from os os ns ns (λ x. not (same_ref w.object x.object)) (take p ss) 0 p (omega (arith, length-take p ss)) (each_other p w.object (at_last p s w here)))

  -- who waits at the next place joins those before
  pub joined_here : (p : ℕ) (s : Slot) → slice_get ss p ≡ Some s → joined (waits_from os ns 0 (take p ss)) (wait_at os ns p s) ≡ waits_from os ns 0 (take (p + 1) ss)
  joined_here p s at = by (wait_at os ns p s) refl ∙ sym (next_waits os ns ss p s at)
    where
      few : (o : Option (ObjRef × Option ℕ)) (n : Option (List ℕ × Chain)) (w x : Wait) (ws : List Wait) → wait_of p o n ≡ w ∷ x ∷ ws → ⊥
      few None n w x ws is = true≢false (sym (ap has_two is))
      few (Some o) None w x ws is = true≢false (sym (ap has_two is))
      few (Some o) (Some n) w x ws is = here (is_place p o.1 && nat_le n.1.from p) is
        where
          here : (t : Bool) → (if t then record { object = o.0; name = n.0 } ∷ [] else []) ≡ w ∷ x ∷ ws → ⊥
          here true same = true≢false (sym (ap has_two same))
          here false same = true≢false (sym (ap has_two same))

      by : (ws : List Wait) → wait_at os ns p s ≡ ws → joined (waits_from os ns 0 (take p ss)) (wait_at os ns p s) ≡ waits_from os ns 0 (take p ss) ++ wait_at os ns p s
      by [] here =
          ap (joined (waits_from os ns 0 (take p ss))) here ∙ sym (append-nil (waits_from os ns 0 (take p ss))) ∙ ap (λ (ws : List Wait). waits_from os ns 0 (take p ss) ++ ws) (sym here)
      by (w ∷ []) here =
          ap (joined (waits_from os ns 0 (take p ss))) here
          ∙ ap (λ (ws : List Wait). ws ++ record { object = w.object; name = w.name } ∷ []) (none_before p s w here)
          ∙ ap (λ (ws : List Wait). waits_from os ns 0 (take p ss) ++ ws) (sym here)
      by (w ∷ x ∷ ws) here = absurd (few (slice_get os s.object) (slice_get ns s.name) w x ws here)
