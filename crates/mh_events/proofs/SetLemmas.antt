-- Timers that are found by their keys, with one more that is set.
use Rattle.std.specs.Prelude.{◌≡◌, ℕ, ◌<◌, ◌≤◌, Bool, true, false, cond, not, nat_lt, List, [], ◌∷◌, ◌++◌, filter, map, Some, None, refl}
use Rattle.std.specs.declared.cmp.Ordering.{Ordering}
use Rattle.std.specs.declared.cmp.Ordering.TheVariants.{Less, Equal, Greater}
use Rattle.std.specs.BTreeMap.{insert_entry}
use Rattle.std.specs.List.{AllByRecursion}
use Rattle.std.specs.Ordering.{match_ordering}
use Rattle.std.proofs.Common.{ap, ◌∙◌, sym, arith}
use Rattle.std.proofs.lemmas.Bool.Decides.{nat_tests}
use Rattle.std.proofs.lemmas.List.{map-append}
use Rattle.std.proofs.lemmas.List.Elements.{filter-append}
use Rattle.mh_model.specs.declared.time.Timer.{Timer}
use Rattle.mh_model.specs.Time.{cancelled}
use Rattle.mh_events.specs.declared.timer_key.TimerKey.{TimerKey}
use Rattle.mh_events.specs.declared.turn.Turn.{Turn}
use Rattle.mh_events.specs.Turns.{by_age, has_turn, in_setting_order, key_of, same_timer_key, turn_cmp, AreFound, IsFound}
use Rattle.mh_events.proofs.AgeLemmas.{age_insert, filter_age, unlike, AreOlder}
use Rattle.mh_events.proofs.EachLemmas.{all_kept, all_mapped}
use Rattle.mh_events.proofs.FoundLemmas.{missing, moved, other, view_removed, view_unset, Changes}
use Rattle.mh_events.proofs.KeyLemmas.{is_false, key_is, key_itself, turn_is, within, Find}

all_inserted : (Q : Turn × Timer → Type 0) (u : Turn) (t : Timer) (es : List (Turn × Timer)) → AreOlder u.number es → Q (u, t) → AllByRecursion Q es → AllByRecursion Q (insert_entry turn_cmp es u t)
all_inserted Q u t [] older new all = (new, cc)
all_inserted Q u t (e ∷ es) older new all = by (all_inserted Q u t es older.1 new all.1) (turn_cmp u e.0) refl
  where
    by : AllByRecursion Q (insert_entry turn_cmp es u t) → (o : Ordering) → turn_cmp u e.0 ≡ o → AllByRecursion Q (match_ordering o ((u, t) ∷ e ∷ es) ((e.0, t) ∷ es) (e ∷ insert_entry turn_cmp es u t))
    by rest Less is = (new, all)
    by rest Equal is = absurd (unlike u e.0 older.0 is)
    by rest Greater is = (all.0, rest)

below : (a b : ℕ) → a < b → nat_lt a b ≡ true
below a b less = grind (arith, nat_tests)

older_each : (find : Find) (u : Turn) (es : List (Turn × Timer)) (left : ℕ) → u.number < left → AreFound es find left → AreOlder u.number es
older_each find u es left less all = all_mapped (IsFound find) (λ e. nat_lt u.number e.0.number ≡ true) es
    (λ e found. let far = all.free (key_of e.1) e.0 found.found in below u.number e.0.number (omega (arith, less, far))) all.each

-- all that stay are found where a new one is set
set_each : (find later : Find) (k : TimerKey) (u : Turn) (t : Timer) (p : Turn × Timer → Bool) (es : List (Turn × Timer)) (left : ℕ) → u.number < left → u.due ≡ t.due → k ≡ key_of t
    → Changes find k (Some u) later → AreFound es find left → ((e : Turn × Timer) → IsFound find e → p e ≡ true → k ≡ key_of e.1 → ⊥)
    → AllByRecursion (λ e. p e ≡ true → IsFound later e) (insert_entry turn_cmp es u t)
set_each find later k u t p es left less due is changes all other =
    all_inserted (λ e. p e ≡ true → IsFound later e) u t es (older_each find u es left less all) (λ _. new)
    (all_mapped (IsFound find) (λ e. p e ≡ true → IsFound later e) es
    (λ e found stays. moved find later k (Some u) e changes (other e found stays) (λ same. apart e found (within u e.0 same)) found) all.each)
  where
    apart : (e : Turn × Timer) → IsFound find e → u ≡ e.0 → ⊥
    apart e found same =
        let far = all.free (key_of e.1) e.0 found.found in
        let one = ap (λ (v : Turn). v.number) same in
        absurd (omega (arith, less, far, one))

    by : (q : TimerKey) (b : Bool) → same_timer_key k q ≡ b → cond b (Some u) (find q) ≡ Some u → q ≡ key_of t
    by q true same there = sym (key_is k q same) ∙ is
    by q false same there = let far = all.free q u there in absurd (omega (arith, less, far))

    new : IsFound later (u, t)
    new = record {
      timed = due;
      found = ap later (sym is) ∙ changes k ∙ ap (λ (b : Bool). cond b (Some u) (find k)) (key_itself k);
      alone = λ q there. by q (same_timer_key k q) refl (sym (changes q) ∙ there);
    }

set_free : (find later : Find) (k : TimerKey) (u : Turn) (left : ℕ) → u.number < left → Changes find k (Some u) later
    → ((q : TimerKey) (v : Turn) → find q ≡ Some v → left ≤ v.number) → (q : TimerKey) (v : Turn) → later q ≡ Some v → u.number ≤ v.number
set_free find later k u left less changes free q v is = by (same_timer_key k q) (sym (changes q) ∙ is)
  where
    by : (b : Bool) → cond b (Some u) (find q) ≡ Some v → u.number ≤ v.number
    by true here = let one = ap (λ (w : Turn). w.number) (within u v here) in omega (arith, one)
    by false there = let far = free q v there in omega (arith, less, far)

-- a timer is set for the first time
pub found_new : (find later : Find) (k : TimerKey) (u : Turn) (t : Timer) (es : List (Turn × Timer)) (left : ℕ) → u.number < left → u.due ≡ t.due → k ≡ key_of t
    → find k ≡ None → Changes find k (Some u) later → AreFound es find left → AreFound (insert_entry turn_cmp es u t) later u.number
found_new find later k u t es left less due is none changes all = record {
  each = all_mapped (λ e. true ≡ true → IsFound later e) (IsFound later) (insert_entry turn_cmp es u t) (λ e found. found refl)
      (set_each find later k u t (λ e. true) es left less due is changes all (λ e found stays same. missing find k e none found same));
  free = set_free find later k u left less changes all.free;
}

-- or in place of an older one
pub found_replaced : (find later : Find) (k : TimerKey) (u old : Turn) (t : Timer) (es : List (Turn × Timer)) (left : ℕ) → u.number < left → u.due ≡ t.due → k ≡ key_of t
    → find k ≡ Some old → Changes find k (Some u) later → AreFound es find left → AreFound (filter (λ e. not (has_turn old e)) (insert_entry turn_cmp es u t)) later u.number
found_replaced find later k u old t es left less due is there changes all = record {
  each = all_kept (IsFound later) (λ e. not (has_turn old e)) (insert_entry turn_cmp es u t)
      (set_each find later k u t (λ e. not (has_turn old e)) es left less due is changes all (other find k old there));
  free = set_free find later k u left less changes all.free;
}

view_inserted : (u : Turn) (t : Timer) (es : List (Turn × Timer)) → AreOlder u.number es → in_setting_order (insert_entry turn_cmp es u t) ≡ in_setting_order es ++ t ∷ []
view_inserted u t es older =
    let none : AreOlder u.number [] = cc in
    ap (λ (l : List (Turn × Timer)). map (λ e. e.1) l) (age_insert u t [] es none older)
    ∙ map-append (λ e. e.1) (by_age [] es) ((u, t) ∷ [])

pub view_new : (find : Find) (k : TimerKey) (u : Turn) (t : Timer) (es : List (Turn × Timer)) (left : ℕ) → u.number < left → find k ≡ None → AreFound es find left
    → in_setting_order (insert_entry turn_cmp es u t) ≡ cancelled k.group k.id (in_setting_order es) ++ t ∷ []
view_new find k u t es left less none all =
    view_inserted u t es (older_each find u es left less all)
    ∙ ap (λ (ts : List Timer). ts ++ t ∷ []) (view_unset find k es none all.each)

pub view_replaced : (find : Find) (k : TimerKey) (u old : Turn) (t : Timer) (es : List (Turn × Timer)) (left : ℕ) → u.number < left → find k ≡ Some old → AreFound es find left
    → in_setting_order (filter (λ e. not (has_turn old e)) (insert_entry turn_cmp es u t)) ≡ cancelled k.group k.id (in_setting_order es) ++ t ∷ []
view_replaced find k u old t es left less there all =
    ap timers_of (sym (filter_age stays [] (insert_entry turn_cmp es u t) cc)
    ∙ ap (filter stays) inserted
    ∙ filter-append stays (by_age [] es) ((u, t) ∷ [])
    ∙ ap (λ (l : List (Turn × Timer)). filter stays (by_age [] es) ++ l) last
    ∙ ap (λ (l : List (Turn × Timer)). l ++ (u, t) ∷ []) (filter_age stays [] es cc))
    ∙ map-append (λ e. e.1) (by_age [] (filter stays es)) ((u, t) ∷ [])
    ∙ ap (λ (ts : List Timer). ts ++ t ∷ []) (view_removed find k old es there all.each)
  where
    timers_of : List (Turn × Timer) → List Timer
    timers_of l = map (λ e. e.1) l

    stays : Turn × Timer → Bool
    stays e = not (has_turn old e)

    apart : has_turn old (u, t) ≡ false
    apart = is_false (has_turn old (u, t)) (λ same.
        let one = ap (λ (v : Turn). v.number) (turn_is old (u, t) same) in
        let far = all.free k old there in
        absurd (omega (arith, less, far, one)))

    last : filter stays ((u, t) ∷ []) ≡ (u, t) ∷ []
    last = rw apart refl

    inserted : by_age [] (insert_entry turn_cmp es u t) ≡ by_age [] es ++ (u, t) ∷ []
    inserted =
        let none : AreOlder u.number [] = cc in
        age_insert u t [] es none (older_each find u es left less all)
