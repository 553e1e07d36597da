-- One more object that waits.
use Rattle.std.proofs.Common.{◌≡◌, ◌⊎◌, ℕ, zero, suc, ◌+◌, ◌<◌, ◌≤◌, Bool, true, false, ◌&&◌, not, cond, if◌then◌else◌, List, [], ◌∷◌, ◌++◌, map, filter, length, slice_get, take, Option, Some, None, refl, ap, sym, subst, ◌∙◌, inl, inr, true≢false, arith}
use Rattle.std.specs.Prelude.{nat_eq, nat_le}
use Rattle.std.specs.Cmp.{nat_eq_equiv}
use Rattle.std.specs.Cmp.Lexicographic.{nat_list_eq_equiv}
use Rattle.std.specs.List.{IsDistinct, position_or_len}
use Rattle.std.specs.Map.{keys_of, lookup, set_value}
use Rattle.std.specs.Option.{is_some, option_map, option_map_or, unwrap_or}
use Rattle.std.specs.Str.{bytes_eq}
use Rattle.std.proofs.lemmas.Bool.Decides.{nat_tests}
use Rattle.std.proofs.lemmas.List.{append-nil, length-append, length-take, take-append-le, take_all}
use Rattle.std.proofs.lemmas.List.Elements.{filter-append}
use Rattle.std.proofs.lemmas.Map.Entries.{lookup_from_place}
use Rattle.std.proofs.lemmas.Option.{slice_get_within}
use Rattle.std.proofs.lemmas.Slice.Eq.{bytes_eq-Decides}
use Rattle.indexmap.specs.IndexMap.{insert_entry}
use Rattle.mh_base.specs.declared.obj_ref.ObjRef.{ObjRef}
use Rattle.mh_model.specs.declared.file.Wait.{Wait}
use Rattle.mh_model.specs.Files.{awaited, forgotten}
use Rattle.mh_model.specs.Reference.{same_key, same_ref}
use Rattle.mh_carousel.specs.declared.slot.Chain.{Chain}
use Rattle.mh_carousel.specs.declared.slot.Slot.{Slot}
use Rattle.mh_carousel.specs.Waited.{Objects, Names, is_place, wait_of, wait_at, waits_from, waits_before, name_of, name_at, newest_of, began_at, IsLast, LeadsBack, AreLinked, chain_with}
use Rattle.mh_carousel.proofs.TableLemmas.{marked, IsInserted, inserted_at, key_at, lookup_inserted}
use Rattle.mh_carousel.proofs.PlaceLemmas.{same_key-equiv, same_key-same, gone, new_elsewhere, still, new_name, same_from, waits_append}
use Rattle.mh_carousel.proofs.LinkLemmas.{filtered_waits, objects_linked}

-- Its object has no other place any more

module _ (os : Objects) (ns : Names) (ss : List Slot) (r : ObjRef) (apart : IsDistinct same_key (keys_of os)) where
  abbrev placed : Objects
  placed = insert_entry same_key os r (Some (length ss))

  each_placed : (q : ℕ) (s : Slot) → q < length ss → wait_at placed ns q s ≡ filter (λ w. not (same_ref r w.object)) (wait_at os ns q s)
  each_placed q s within = by (slice_get os s.object) (slice_get placed s.object) (inserted_at same_key r (Some (length ss)) same_key-equiv os apart s.object)
    where
      elsewhere : is_place q (Some (length ss)) ≡ false
      elsewhere = grind (arith, nat_tests)

      by : (x y : Option (ObjRef × Option ℕ)) → IsInserted same_key r (Some (length ss)) os x y → wait_of q y (slice_get ns s.name) ≡ filter (λ w. not (same_ref r w.object)) (wait_of q x (slice_get ns s.name))
      by x y (inl is) =
          ap (λ (z : Option (ObjRef × Option ℕ)). wait_of q z (slice_get ns s.name)) is ∙ gone q r (Some (length ss)) x (slice_get ns s.name) elsewhere
      by x y (inr is) =
          ap (λ (z : Option (ObjRef × Option ℕ)). wait_of q z (slice_get ns s.name)) is.1
          ∙ new_elsewhere q r (Some (length ss)) (slice_get ns s.name) elsewhere
          ∙ sym (ap (λ (z : Option (ObjRef × Option ℕ)). filter (λ (w : Wait). not (same_ref r w.object)) (wait_of q z (slice_get ns s.name))) is.0)

  pub placed_waits : waits_from (insert_entry same_key os r (Some (length ss))) ns 0 ss ≡ forgotten r (waits_from os ns 0 ss)
  placed_waits = filtered_waits os placed ns ns ss (λ w. not (same_ref r w.object)) each_placed (λ s. refl)

  pub placed_linked : AreLinked os ns ss → AreLinked (insert_entry same_key os r (Some (length ss))) ns ss
  placed_linked = objects_linked os placed ns ns ss (λ w. not (same_ref r w.object)) each_placed (λ s. refl) refl

-- It has the next place

pub slice_get_front : {X : Type 0} (xs ys : List X) (i : ℕ) (x : X) → slice_get xs i ≡ Some x → slice_get (xs ++ ys) i ≡ Some x
slice_get_front [] ys i x at = absurd (true≢false (sym (ap is_some at)))
slice_get_front (y ∷ xs) ys zero x at = at
slice_get_front (y ∷ xs) ys (suc i) x at = slice_get_front xs ys i x at

pub slice_get_end : {X : Type 0} (xs : List X) (x : X) → slice_get (xs ++ x ∷ []) (length xs) ≡ Some x
slice_get_end [] x = refl
slice_get_end (y ∷ xs) x = slice_get_end xs x

pub front_or_end : {X : Type 0} (xs : List X) (y : X) (i : ℕ) (x : X) → slice_get (xs ++ y ∷ []) i ≡ Some x → (slice_get xs i ≡ Some x) ⊎ ((i ≡ length xs) × (x ≡ y))
front_or_end [] y zero x at = inr (refl, ap (λ o. unwrap_or o x) (sym at))
front_or_end [] y (suc i) x at = absurd (true≢false (sym (ap is_some at)))
front_or_end (z ∷ xs) y zero x at = inl at
front_or_end (z ∷ xs) y (suc i) x at =
    elim (front_or_end xs y i x at) [
      | inl is ↦ inl is
      | inr is ↦ inr (ap suc is.0, is.1)
    ]

none_named : (name x : List ℕ) → bytes_eq name x ≡ false → (r : ObjRef) → filter (λ (w : Wait). bytes_eq w.name x) (record { object = r; name = name } ∷ []) ≡ []
none_named name x is r =
    let one : Wait = record { object = r; name = name } in
    ap (λ (t : Bool). cond t (one ∷ []) []) is

some_name : (name x : List ℕ) → Some name ≡ Some x → name ≡ x
some_name name x is = ap (λ (o : Option (List ℕ)). unwrap_or o name) is

module _ (os : Objects) (ns : Names) (ss : List Slot) (r : ObjRef) (name : List ℕ) (i : ℕ)
    (apart : IsDistinct bytes_eq (keys_of ns))
    (there : slice_get os i ≡ Some (r, Some (length ss)))
    (linked : AreLinked os ns ss) where
  abbrev pub chain : Chain
  chain = chain_with (length ss) (lookup (bytes_eq name) ns)

  abbrev pub named : Names
  named = insert_entry bytes_eq ns name chain

  abbrev pub slot : Slot
  slot = record { object = i; name = position_or_len (bytes_eq name) (keys_of ns); older = newest_of (lookup (bytes_eq name) ns) }

  abbrev pub longer : List Slot
  longer = ss ++ slot ∷ []

  inserted : (j : ℕ) → IsInserted bytes_eq name chain ns (slice_get ns j) (slice_get named j)
  inserted = inserted_at bytes_eq name chain nat_list_eq_equiv ns apart

  began : (j : ℕ) (e : List ℕ × Chain) → slice_get ns j ≡ Some e → bytes_eq name e.0 ≡ true → chain.from ≡ e.1.from
  began j e at is =
      let same : name ≡ e.0 = (bytes_eq-Decides name e.0).0 is in
      ap (λ (x : List ℕ). began_at (length ss) (lookup (bytes_eq x) ns)) same
      ∙ ap (began_at (length ss)) (lookup_from_place nat_list_eq_equiv ns j e.0 e.1 apart at)

  each : (q : ℕ) (s : Slot) → q < length ss → wait_at os named q s ≡ wait_at os ns q s
  each q s within = by (slice_get ns s.name) (slice_get named s.name) (began s.name) (inserted s.name)
    where
      none : (x : Option (ObjRef × Option ℕ)) → wait_of q x None ≡ []
      none None = refl
      none (Some o) = refl

      by : (x y : Option (List ℕ × Chain)) → ((e : List ℕ × Chain) → x ≡ Some e → bytes_eq name e.0 ≡ true → chain.from ≡ e.1.from) → IsInserted bytes_eq name chain ns x y → wait_of q (slice_get os s.object) y ≡ wait_of q (slice_get os s.object) x
      by x y from (inl is) = ap (wait_of q (slice_get os s.object)) is ∙ still q name chain (slice_get os s.object) x from
      by x y from (inr is) =
          let begins : chain.from ≡ length ss = ap (began_at (length ss)) is.2 in
          let before : nat_le chain.from q ≡ false = ap (λ (k : ℕ). nat_le k q) begins ∙ grind (arith, nat_tests) in
          ap (wait_of q (slice_get os s.object)) is.1 ∙ new_name q name chain (slice_get os s.object) before
          ∙ sym (ap (wait_of q (slice_get os s.object)) is.0 ∙ none (slice_get os s.object))

  before_same : (x : List ℕ) (n : ℕ) → n ≤ length ss → waits_before os named longer x n ≡ waits_before os ns ss x n
  before_same x n within =
      ap (λ (ts : List Slot). filter (λ (w : Wait). bytes_eq w.name x) (waits_from os named 0 ts)) (take-append-le n ss (slot ∷ []) within)
      ∙ ap (filter (λ (w : Wait). bytes_eq w.name x)) (same_from os os ns named (take n ss) 0 (length ss) (omega (arith, length-take n ss)) each)

  name_same : (s : Slot) (x : List ℕ) → name_of ns s ≡ Some x → name_of named s ≡ Some x
  name_same s x = by (slice_get ns s.name) (slice_get named s.name) (inserted s.name)
    where
      key : (n : List ℕ × Chain) (t : Bool) → Some (cond t (n.0, chain) n).0 ≡ Some n.0
      key n true = refl
      key n false = refl

      by : (o m : Option (List ℕ × Chain)) → IsInserted bytes_eq name chain ns o m → option_map (λ n. n.0) o ≡ Some x → option_map (λ n. n.0) m ≡ Some x
      by None m at is = absurd (true≢false (sym (ap is_some is)))
      by (Some n) m (inl at) is = ap (option_map (λ (e : List ℕ × Chain). e.0)) at ∙ key n (bytes_eq name n.0) ∙ is
      by (Some n) m (inr at) is = absurd (true≢false (ap is_some at.0))

  named_at : (q : ℕ) (x : List ℕ) → name_at ns ss q ≡ Some x → name_at named longer q ≡ Some x
  named_at q x = by (slice_get ss q) refl
    where
      by : (o : Option Slot) → slice_get ss q ≡ o → option_map_or (name_of ns) o None ≡ Some x → option_map_or (name_of named) (slice_get longer q) None ≡ Some x
      by None at is = absurd (true≢false (sym (ap is_some is)))
      by (Some s) at is = ap (λ (o : Option Slot). option_map_or (name_of named) o None) (slice_get_front ss (slot ∷ []) q s at) ∙ name_same s x is

  last_same : (x : List ℕ) (bound : ℕ) (at : Option ℕ) → bound ≤ length ss → IsLast os ns ss x bound at → IsLast os named longer x bound at
  last_same x bound None within is = before_same x bound within ∙ is
  last_same x bound (Some q) within is = (is.0, named_at q x is.1, before_same x bound within ∙ is.2 ∙ sym (before_same x (q + 1) (omega (arith, within, is.0))))

  here : wait_at os named (length ss) slot ≡ record { object = r; name = name } ∷ []
  here =
      let begun : nat_le chain.from (length ss) ≡ true = grind (arith, nat_tests, linked.began name) in
      (λ j. wait_of (length ss) (there j) (key_at bytes_eq name chain (λ x is. (bytes_eq-Decides name x).0 is) ns j))
      ∙ (λ j. if nat_eq_equiv.refl (length ss) j && begun j then record { object = r; name = name } ∷ [] else [])

  here_too : wait_at os named (0 + length ss) slot ≡ record { object = r; name = name } ∷ []
  here_too =
      let same : 0 + length ss ≡ length ss = omega arith in
      ap (λ (n : ℕ). wait_at os named n slot) same ∙ here

  pub added_waits : waits_from os (insert_entry bytes_eq ns name (chain_with (length ss) (lookup (bytes_eq name) ns))) 0 longer ≡ waits_from os ns 0 ss ++ record { object = r; name = name } ∷ []
  added_waits =
      waits_append os named ss (slot ∷ []) 0
      ∙ (λ j. same_from os os ns named ss 0 (length ss) (omega arith) each j ++ (append-nil (wait_at os named (0 + length ss) slot) j))
      ∙ ap (λ (ws : List Wait). waits_from os ns 0 ss ++ ws) here_too

  longer_length : length longer ≡ length ss + 1
  longer_length = length-append ss (slot ∷ [])

  -- who waits for another file waits at a place before
  before_longer : (x : List ℕ) → bytes_eq name x ≡ false → waits_before os named longer x (length ss + 1) ≡ waits_before os named longer x (length ss)
  before_longer x is =
      let all : take (length ss + 1) longer ≡ longer = take_all (length ss + 1) longer (omega (arith, longer_length)) in
      let front : take (length ss) longer ≡ ss = take-append-le (length ss) ss (slot ∷ []) (omega arith) ∙ take_all (length ss) ss (omega arith) in
      ap (λ (ts : List Slot). filter (λ (w : Wait). bytes_eq w.name x) (waits_from os named 0 ts)) all
      ∙ ap (filter (λ (w : Wait). bytes_eq w.name x)) (waits_append os named ss (slot ∷ []) 0 ∙ ap (λ (ws : List Wait). waits_from os named 0 ss ++ ws) (append-nil (wait_at os named (0 + length ss) slot) ∙ here_too))
      ∙ filter-append (λ w. bytes_eq w.name x) (waits_from os named 0 ss) (record { object = r; name = name } ∷ [])
      ∙ ap (λ (ws : List Wait). filter (λ w. bytes_eq w.name x) (waits_from os named 0 ss) ++ ws) (none_named name x is r)
      ∙ append-nil (filter (λ w. bytes_eq w.name x) (waits_from os named 0 ss))
      ∙ sym (ap (λ (ts : List Slot). filter (λ (w : Wait). bytes_eq w.name x) (waits_from os named 0 ts)) front)

  name_here : name_of named slot ≡ Some name
  name_here = ap (option_map (λ (n : List ℕ × Chain). n.0)) (key_at bytes_eq name chain (λ x is. (bytes_eq-Decides name x).0 is) ns)

  pub added_linked : AreLinked os (insert_entry bytes_eq ns name (chain_with (length ss) (lookup (bytes_eq name) ns))) longer
  added_linked = record {
    newest = λ x. by_newest x (bytes_eq name x) refl;
    began = λ x. by_began x (bytes_eq name x) refl;
    older = λ q s at. by_older q s (front_or_end ss slot q s at);
  }
    where
      known : (x : List ℕ) (t : Bool) → bytes_eq name x ≡ t → lookup (bytes_eq x) named ≡ cond t (Some chain) (lookup (bytes_eq x) ns)
      known x t is = lookup_inserted bytes_eq name chain nat_list_eq_equiv ns x ∙ ap (λ (b : Bool). cond b (Some chain) (lookup (bytes_eq x) ns)) is

      by_newest : (x : List ℕ) (t : Bool) → bytes_eq name x ≡ t → IsLast os named longer x (length longer) (newest_of (lookup (bytes_eq x) named))
      by_newest x true is =
          let at : name_at named longer (length ss) ≡ Some x = ap (λ (o : Option Slot). option_map_or (name_of named) o None) (slice_get_end ss slot) ∙ name_here ∙ ap (λ (y : List ℕ). Some y) ((bytes_eq-Decides name x).0 is) in
          subst (λ (c : Option Chain). IsLast os named longer x (length longer) (newest_of c)) (sym (known x true is))
          (omega (arith, longer_length), at, ap (waits_before os named longer x) longer_length)
      by_newest x false is =
          subst (λ (c : Option Chain). IsLast os named longer x (length longer) (newest_of c)) (sym (known x false is))
          (later x is (newest_of (lookup (bytes_eq x) ns)) (last_same x (length ss) (newest_of (lookup (bytes_eq x) ns)) (omega arith) (linked.newest x)))
        where
          later : (y : List ℕ) → bytes_eq name y ≡ false → (at : Option ℕ) → IsLast os named longer y (length ss) at → IsLast os named longer y (length longer) at
          later y other None was = ap (waits_before os named longer y) longer_length ∙ before_longer y other ∙ was
          later y other (Some q) was = (omega (arith, was.0, longer_length), was.1, ap (waits_before os named longer y) longer_length ∙ before_longer y other ∙ was.2)

      by_began : (x : List ℕ) (t : Bool) → bytes_eq name x ≡ t → began_at (length longer) (lookup (bytes_eq x) named) ≤ length longer
      by_began x true is =
          let from = ap (began_at (length longer)) (known x true is) in
          omega (arith, from, linked.began name, longer_length)
      by_began x false is =
          let from = ap (began_at (length longer)) (known x false is) in
          let old : began_at (length longer) (lookup (bytes_eq x) ns) ≤ length longer = by (lookup (bytes_eq x) ns) (linked.began x) in
          omega (arith, from, old)
        where
          by : (c : Option Chain) → began_at (length ss) c ≤ length ss → began_at (length longer) c ≤ length longer
          by None was = omega arith
          by (Some c) was = omega (arith, was, longer_length)

      by_older : (q : ℕ) (s : Slot) → (slice_get ss q ≡ Some s) ⊎ ((q ≡ length ss) × (s ≡ slot)) → LeadsBack os named longer q s (name_of named s)
      by_older q s (inl at) = by (name_of ns s) refl (linked.older q s at)
        where
          by : (o : Option (List ℕ)) → name_of ns s ≡ o → LeadsBack os ns ss q s o → LeadsBack os named longer q s (name_of named s)
          by None is was = absurd was
          by (Some x) is was = subst (LeadsBack os named longer q s) (sym (name_same s x is)) (last_same x q s.older (omega (arith, slice_get_within ss q s at)) was)
      by_older q s (inr at) =
          subst (λ (t : Slot). LeadsBack os named longer q t (name_of named t)) (sym at.1)
          (subst (λ (n : ℕ). LeadsBack os named longer n slot (name_of named slot)) (sym at.0)
          (subst (LeadsBack os named longer (length ss) slot) (sym name_here) (last_same name (length ss) (newest_of (lookup (bytes_eq name) ns)) (omega arith) (linked.newest name))))

-- both tables, and the places with one more

pub added : (os os' : Objects) (ns ns' : Names) (ss ss' : List Slot) (r : ObjRef) (name : List ℕ) (place i j : ℕ) (older : Option ℕ)
    → IsDistinct same_key (keys_of os) → IsDistinct bytes_eq (keys_of ns) → AreLinked os ns ss
    → place ≡ length ss
    → os' ≡ insert_entry same_key os r (Some place)
    → i ≡ position_or_len (same_key r) (keys_of os)
    → ns' ≡ insert_entry bytes_eq ns name (chain_with place (lookup (bytes_eq name) ns))
    → j ≡ position_or_len (bytes_eq name) (keys_of ns)
    → older ≡ newest_of (lookup (bytes_eq name) ns)
    → ss' ≡ ss ++ record { object = i; name = j; older = older } ∷ []
    → AreLinked os' ns' ss' × (waits_from os' ns' 0 ss' ≡ awaited (Some name) r (waits_from os ns 0 ss))
added os os' ns ns' ss ss' r name place i j older objects names linked at put stands named stays last pushed =
    let placed : Objects = insert_entry same_key os r (Some (length ss)) in
    let there : slice_get placed (position_or_len (same_key r) (keys_of os)) ≡ Some (r, Some (length ss)) = key_at same_key r (Some (length ss)) (same_key-same r) os in
    let was : AreLinked placed ns ss = placed_linked os ns ss r objects linked in
    let os_is : os' ≡ placed = put ∙ ap (λ (n : ℕ). insert_entry same_key os r (Some n)) at in
    let ns_is : ns' ≡ insert_entry bytes_eq ns name (chain_with (length ss) (lookup (bytes_eq name) ns)) = named ∙ ap (λ (n : ℕ). insert_entry bytes_eq ns name (chain_with n (lookup (bytes_eq name) ns))) at in
    let ss_is : ss' ≡ ss ++ record { object = position_or_len (same_key r) (keys_of os); name = position_or_len (bytes_eq name) (keys_of ns); older = newest_of (lookup (bytes_eq name) ns) } ∷ [] =
    pushed ∙ (λ k. ss ++ record { object = stands k; name = stays k; older = last k } ∷ []) in (
      subst (λ (xs : Objects × Names × List Slot). AreLinked xs.0 xs.1 xs.2) (sym (λ k. (os_is k, ns_is k, ss_is k)))
          (added_linked placed ns ss r name (position_or_len (same_key r) (keys_of os)) names there was),
      (λ k. waits_from (os_is k) (ns_is k) 0 (ss_is k))
          ∙ added_waits placed ns ss r name (position_or_len (same_key r) (keys_of os)) names there was
          ∙ ap (λ (ws : List Wait). ws ++ record { object = r; name = name } ∷ []) (placed_waits os ns ss r objects),
    )
