-- The places of each file, once one object or one name has changed.
use Rattle.std.proofs.Common.{◌≡◌, ◌⊎◌, ℕ, zero, suc, ◌+◌, ◌<◌, ◌≤◌, Bool, true, false, ◌&&◌, not, cond, if◌then◌else◌, List, [], ◌∷◌, ◌++◌, map, filter, length, slice_get, take, Option, Some, None, refl, ap, sym, subst, ◌∙◌, inl, inr, true≢false, arith}
use Rattle.std.specs.Prelude.{nat_eq, nat_le}
use Rattle.std.specs.Cmp.{nat_eq_equiv}
use Rattle.std.specs.Cmp.Lexicographic.{nat_list_eq_equiv}
use Rattle.std.specs.List.{IsDistinct, position_or_len}
use Rattle.std.specs.Map.{keys_of, lookup, set_value}
use Rattle.std.specs.Option.{is_some, option_map, option_map_or, unwrap_or}
use Rattle.std.specs.Str.{bytes_eq}
use Rattle.std.proofs.lemmas.Bool.Decides.{nat_tests}
use Rattle.std.proofs.lemmas.List.{length-append, length-take, take-append-le, take_all}
use Rattle.std.proofs.lemmas.List.Elements.{filter-append}
use Rattle.std.proofs.lemmas.Map.Entries.{lookup_from_place}
use Rattle.std.proofs.lemmas.Option.{slice_get-map, slice_get_within}
use Rattle.std.proofs.lemmas.Slice.Eq.{bytes_eq-Decides}
use Rattle.indexmap.specs.IndexMap.{insert_entry}
use Rattle.mh_base.specs.declared.obj_ref.ObjRef.{ObjRef}
use Rattle.mh_model.specs.declared.file.Wait.{Wait}
use Rattle.mh_model.specs.Files.{arrived, forgotten}
use Rattle.mh_model.specs.Reference.{same_key, same_ref}
use Rattle.mh_carousel.specs.declared.slot.Chain.{Chain}
use Rattle.mh_carousel.specs.declared.slot.Slot.{Slot}
use Rattle.mh_carousel.specs.Waited.{Objects, Names, is_place, wait_of, wait_at, waits_from, waits_before, name_of, name_at, newest_of, began_at, IsLast, LeadsBack, AreLinked, chain_with, kept_place}
use Rattle.mh_carousel.proofs.TableLemmas.{marked, IsInserted, set_at, inserted_at, key_at, lookup_inserted, lookup_set, lookup_set_own}
use Rattle.mh_carousel.proofs.PlaceLemmas.{same_key-equiv, gone, new_elsewhere, of_application, came, still, new_name, filtered_from, same_from, waits_append, filter_twice}

-- Some go, and all places lead on as they did

module _ (os os' : Objects) (ns ns' : Names) (ss : List Slot) (p : Wait → Bool)
    (each : (q : ℕ) (s : Slot) → q < length ss → wait_at os' ns' q s ≡ filter p (wait_at os ns q s))
    (names : (s : Slot) → name_of ns' s ≡ name_of ns s) where
  pub filtered_waits : waits_from os' ns' 0 ss ≡ filter p (waits_from os ns 0 ss)
  filtered_waits = filtered_from os os' ns ns' p ss 0 (length ss) (omega arith) each

  pub filtered_before : (name : List ℕ) (n : ℕ) → waits_before os' ns' ss name n ≡ filter p (waits_before os ns ss name n)
  filtered_before name n =
      ap (filter (λ (w : Wait). bytes_eq w.name name)) (filtered_from os os' ns ns' p (take n ss) 0 (length ss) (omega (arith, length-take n ss)) each)
      ∙ filter_twice (λ w. bytes_eq w.name name) p (waits_from os ns 0 (take n ss))

  name_kept : (q : ℕ) → name_at ns' ss q ≡ name_at ns ss q
  name_kept q = by (slice_get ss q)
    where
      by : (x : Option Slot) → option_map_or (name_of ns') x None ≡ option_map_or (name_of ns) x None
      by None = refl
      by (Some s) = names s

  pub last_kept : (name : List ℕ) (bound : ℕ) (at : Option ℕ) → IsLast os ns ss name bound at → IsLast os' ns' ss name bound at
  last_kept name bound None is = filtered_before name bound ∙ ap (filter p) is
  last_kept name bound (Some q) is = (is.0, name_kept q ∙ is.1, filtered_before name bound ∙ ap (filter p) is.2 ∙ sym (filtered_before name (q + 1)))

  pub back_kept : (q : ℕ) (s : Slot) → LeadsBack os ns ss q s (name_of ns s) → LeadsBack os' ns' ss q s (name_of ns' s)
  back_kept q s = by (name_of ns s) (name_of ns' s) (names s)
    where
      by : (x y : Option (List ℕ)) → y ≡ x → LeadsBack os ns ss q s x → LeadsBack os' ns' ss q s y
      by None y same is = absurd is
      by (Some name) y same is = subst (LeadsBack os' ns' ss q s) (sym same) (last_kept name q s.older is)

  -- where the names are as they were
  pub objects_linked : ns' ≡ ns → AreLinked os ns ss → AreLinked os' ns' ss
  objects_linked same linked = record {
    newest = λ name. last_kept name (length ss) (newest_of (lookup (bytes_eq name) ns')) (subst (λ (xs : Names). IsLast os ns ss name (length ss) (newest_of (lookup (bytes_eq name) xs))) (sym same) (linked.newest name));
    began = λ name. subst (λ (xs : Names). began_at (length ss) (lookup (bytes_eq name) xs) ≤ length ss) (sym same) (linked.began name);
    older = λ q s at. back_kept q s (linked.older q s at);
  }

-- An object is forgotten

module _ (os : Objects) (ns : Names) (ss : List Slot) (r : ObjRef) (apart : IsDistinct same_key (keys_of os)) where
  each_forgotten : (q : ℕ) (s : Slot) → q < length ss → wait_at (set_value (same_key r) os None) ns q s ≡ filter (λ w. not (same_ref r w.object)) (wait_at os ns q s)
  each_forgotten q s within =
      ap (λ (x : Option (ObjRef × Option ℕ)). wait_of q x (slice_get ns s.name)) (set_at same_key r None same_key-equiv os apart s.object)
      ∙ gone q r None (slice_get os s.object) (slice_get ns s.name) refl

  pub forgotten_waits : waits_from (set_value (same_key r) os None) ns 0 ss ≡ forgotten r (waits_from os ns 0 ss)
  forgotten_waits = filtered_waits os (set_value (same_key r) os None) ns ns ss (λ w. not (same_ref r w.object)) each_forgotten (λ s. refl)

  pub forgotten_linked : AreLinked os ns ss → AreLinked (set_value (same_key r) os None) ns ss
  forgotten_linked = objects_linked os (set_value (same_key r) os None) ns ns ss (λ w. not (same_ref r w.object)) each_forgotten (λ s. refl) refl

-- Those of the application stay

module _ (os : Objects) (ns : Names) (ss : List Slot) (application : List ℕ) where
  each_left : (q : ℕ) (s : Slot) → q < length ss → wait_at (map (kept_place application) os) ns q s ≡ filter (λ w. bytes_eq w.object.group application) (wait_at os ns q s)
  each_left q s within =
      ap (λ (x : Option (ObjRef × Option ℕ)). wait_of q x (slice_get ns s.name)) (slice_get-map (kept_place application) os s.object)
      ∙ of_application q application (slice_get os s.object) (slice_get ns s.name)

  pub left_waits : waits_from (map (kept_place application) os) ns 0 ss ≡ filter (λ w. bytes_eq w.object.group application) (waits_from os ns 0 ss)
  left_waits = filtered_waits os (map (kept_place application) os) ns ns ss (λ w. bytes_eq w.object.group application) each_left (λ s. refl)

  pub left_linked : AreLinked os ns ss → AreLinked (map (kept_place application) os) ns ss
  left_linked = objects_linked os (map (kept_place application) os) ns ns ss (λ w. bytes_eq w.object.group application) each_left (λ s. refl) refl

-- A file has come

none_both : (name : List ℕ) (ws : List Wait) → filter (λ w. not (bytes_eq w.name name)) (filter (λ w. bytes_eq w.name name) ws) ≡ []
none_both name [] = refl
none_both name (w ∷ ws) = by (bytes_eq w.name name) refl (none_both name ws)
  where
    by : (t : Bool) → bytes_eq w.name name ≡ t → filter (λ x. not (bytes_eq x.name name)) (filter (λ x. bytes_eq x.name name) ws) ≡ []
        → filter (λ x. not (bytes_eq x.name name)) (cond t (w ∷ filter (λ x. bytes_eq x.name name) ws) (filter (λ x. bytes_eq x.name name) ws)) ≡ []
    by true is below = ap (λ (t : Bool). cond (not t) (w ∷ filter (λ x. not (bytes_eq x.name name)) (filter (λ x. bytes_eq x.name name) ws)) (filter (λ x. not (bytes_eq x.name name)) (filter (λ x. bytes_eq x.name name) ws))) is ∙ below
    by false is below = below

key_kept : (name : List ℕ) (c : Chain) (x : Option (List ℕ × Chain)) → option_map (λ n. n.0) (option_map (marked bytes_eq name c) x) ≡ option_map (λ n. n.0) x
key_kept name c None = refl
key_kept name c (Some n) = by (bytes_eq name n.0)
  where
    by : (t : Bool) → Some (cond t (n.0, c) n).0 ≡ Some n.0
    by true = refl
    by false = refl

module _ (os : Objects) (ns : Names) (ss : List Slot) (name : List ℕ) (apart : IsDistinct bytes_eq (keys_of ns)) where
  abbrev anew : Chain
  anew = record { newest = None; from = length ss }

  abbrev ns' : Names
  ns' = set_value (bytes_eq name) ns anew

  each_arrived : (q : ℕ) (s : Slot) → q < length ss → wait_at os ns' q s ≡ filter (λ w. not (bytes_eq w.name name)) (wait_at os ns q s)
  each_arrived q s within =
      let before : nat_le (length ss) q ≡ false = grind (arith, nat_tests) in
      ap (wait_of q (slice_get os s.object)) (set_at bytes_eq name anew nat_list_eq_equiv ns apart s.name)
      ∙ came q name anew (slice_get os s.object) (slice_get ns s.name) before

  names_kept : (s : Slot) → name_of ns' s ≡ name_of ns s
  names_kept s = ap (option_map (λ (n : List ℕ × Chain). n.0)) (set_at bytes_eq name anew nat_list_eq_equiv ns apart s.name) ∙ key_kept name anew (slice_get ns s.name)

  pub arrived_waits : waits_from os (set_value (bytes_eq name) ns (record { newest = None; from = length ss })) 0 ss ≡ arrived name (waits_from os ns 0 ss)
  arrived_waits = filtered_waits os os ns ns' ss (λ w. not (bytes_eq w.name name)) each_arrived names_kept

  pub arrived_linked : AreLinked os ns ss → AreLinked os (set_value (bytes_eq name) ns (record { newest = None; from = length ss })) ss
  arrived_linked linked = record {
    newest = λ x. by_newest x (bytes_eq name x) refl;
    began = λ x. by_began x (bytes_eq name x) refl;
    older = λ q s at. back_kept os os ns ns' ss (λ w. not (bytes_eq w.name name)) each_arrived names_kept q s (linked.older q s at);
  }
    where
      nowhere : (x : Option Chain) → newest_of (option_map (λ _. anew) x) ≡ None
      nowhere None = refl
      nowhere (Some c) = refl

      here : (x : Option Chain) → began_at (length ss) (option_map (λ _. anew) x) ≡ length ss
      here None = refl
      here (Some c) = refl

      nobody : (x : List ℕ) → name ≡ x → waits_before os ns' ss x (length ss) ≡ []
      nobody x is =
          filtered_before os os ns ns' ss (λ w. not (bytes_eq w.name name)) each_arrived names_kept x (length ss)
          ∙ ap (λ (y : List ℕ). filter (λ w. not (bytes_eq w.name name)) (filter (λ w. bytes_eq w.name y) (waits_from os ns 0 (take (length ss) ss)))) (sym is)
          ∙ none_both name (waits_from os ns 0 (take (length ss) ss))

      by_newest : (x : List ℕ) (t : Bool) → bytes_eq name x ≡ t → IsLast os ns' ss x (length ss) (newest_of (lookup (bytes_eq x) ns'))
      by_newest x true is =
          let none = ap newest_of (lookup_set_own bytes_eq name anew nat_list_eq_equiv ns x is) ∙ nowhere (lookup (bytes_eq x) ns) in
          subst (IsLast os ns' ss x (length ss)) (sym none) (nobody x ((bytes_eq-Decides name x).0 is))
      by_newest x false is =
          subst (λ (c : Option Chain). IsLast os ns' ss x (length ss) (newest_of c)) (sym (lookup_set bytes_eq name anew nat_list_eq_equiv ns x is))
          (last_kept os os ns ns' ss (λ w. not (bytes_eq w.name name)) each_arrived names_kept x (length ss) (newest_of (lookup (bytes_eq x) ns)) (linked.newest x))

      by_began : (x : List ℕ) (t : Bool) → bytes_eq name x ≡ t → began_at (length ss) (lookup (bytes_eq x) ns') ≤ length ss
      by_began x true is =
          let from = ap (began_at (length ss)) (lookup_set_own bytes_eq name anew nat_list_eq_equiv ns x is) ∙ here (lookup (bytes_eq x) ns) in
          omega (arith, from)
      by_began x false is =
          let from = ap (began_at (length ss)) (lookup_set bytes_eq name anew nat_list_eq_equiv ns x is) in
          omega (arith, from, linked.began x)
