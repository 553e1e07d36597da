-- Timers that are found by their keys, as some of them go.
use Rattle.std.specs.Prelude.{◌≡◌, ℕ, ◌≤◌, Bool, true, false, cond, not, List, ◌∷◌, filter, Option, Some, None, ℤ, refl}
use Rattle.std.specs.List.{AllByRecursion}
use Rattle.std.specs.Str.{bytes_eq}
use Rattle.std.proofs.Common.{ap, ◌∙◌, sym}
use Rattle.mh_model.specs.declared.time.Timer.{Timer}
use Rattle.mh_model.specs.Time.{cancelled, is_due, is_timer}
use Rattle.mh_events.specs.declared.timer_key.TimerKey.{TimerKey}
use Rattle.mh_events.specs.declared.turn.Turn.{Turn}
use Rattle.mh_events.specs.Turns.{has_turn, in_setting_order, key_of, same_timer_key, AreFound, IsFound}
use Rattle.mh_events.proofs.AgeLemmas.{order_kept}
use Rattle.mh_events.proofs.EachLemmas.{all_filter, all_joined, all_kept, all_mapped, filter_alike, filter_whole}
use Rattle.mh_events.proofs.KeyLemmas.{is_false, key_is, same_as, timer_here, timer_is, turn_here, turn_is, within, Find}

-- What is cancelled

here : (find : Find) (k : TimerKey) (e : Turn × Timer) → IsFound find e → k ≡ key_of e.1 → find k ≡ Some e.0
here find k e found is = ap find is ∙ found.found

alike : (find : Find) (k : TimerKey) (u : Turn) (e : Turn × Timer) → find k ≡ Some u → IsFound find e → has_turn u e ≡ is_timer k.group k.id e.1
alike find k u e is found = same_as (has_turn u e) (is_timer k.group k.id e.1)
    (λ has. timer_here k e.1 (found.alone k (is ∙ ap (λ (v : Turn). Some v) (turn_is u e has))))
    (λ it. turn_here u e (within u e.0 (sym is ∙ here find k e found (timer_is k e.1 it))))

pub view_removed : (find : Find) (k : TimerKey) (u : Turn) (es : List (Turn × Timer)) → find k ≡ Some u → AllByRecursion (IsFound find) es
    → in_setting_order (filter (λ e. not (has_turn u e)) es) ≡ cancelled k.group k.id (in_setting_order es)
view_removed find k u es is each =
    ap in_setting_order (filter_alike (λ e. not (has_turn u e)) (λ e. not (is_timer k.group k.id e.1)) es
    (all_mapped (IsFound find) (λ e. not (has_turn u e) ≡ not (is_timer k.group k.id e.1)) es (λ e found. ap not (alike find k u e is found)) each))
    ∙ order_kept (λ t. not (is_timer k.group k.id t)) es

pub missing : (find : Find) (k : TimerKey) (e : Turn × Timer) → find k ≡ None → IsFound find e → k ≡ key_of e.1 → ⊥
missing find k e none found is = let there = here find k e found is in absurd (let no : None ≡ Some e.0 = sym none ∙ there in cc)

pub view_unset : (find : Find) (k : TimerKey) (es : List (Turn × Timer)) → find k ≡ None → AllByRecursion (IsFound find) es
    → in_setting_order es ≡ cancelled k.group k.id (in_setting_order es)
view_unset find k es none each =
    ap in_setting_order (sym (filter_whole (λ e. not (is_timer k.group k.id e.1)) es
    (all_mapped (IsFound find) (λ e. not (is_timer k.group k.id e.1) ≡ true) es
    (λ e found. ap not (is_false (is_timer k.group k.id e.1) (λ it. missing find k e none found (timer_is k e.1 it)))) each)))
    ∙ order_kept (λ t. not (is_timer k.group k.id t)) es

-- What is found

abbrev pub Changes : Find → TimerKey → Option Turn → Find → Type 0
Changes find k w later = (q : TimerKey) → later q ≡ cond (same_timer_key k q) w (find q)

-- what is found of a timer stays, where another one's turn changes
pub moved : (find later : Find) (k : TimerKey) (w : Option Turn) (e : Turn × Timer) → Changes find k w later → (k ≡ key_of e.1 → ⊥) → (w ≡ Some e.0 → ⊥) → IsFound find e → IsFound later e
moved find later k w e changes other apart found = record {
  timed = found.timed;
  found = changes (key_of e.1)
      ∙ ap (λ (b : Bool). cond b w (find (key_of e.1))) (is_false (same_timer_key k (key_of e.1)) (λ same. other (key_is k (key_of e.1) same)))
      ∙ found.found;
  alone = λ q is. by q (same_timer_key k q) (sym (changes q) ∙ is);
}
  where
    by : (q : TimerKey) (b : Bool) → cond b w (find q) ≡ Some e.0 → q ≡ key_of e.1
    by q true is = absurd (apart is)
    by q false is = found.alone q is

lower_still : (find later : Find) (k : TimerKey) (left : ℕ) → Changes find k None later → ((q : TimerKey) (u : Turn) → find q ≡ Some u → left ≤ u.number) → (q : TimerKey) (u : Turn) → later q ≡ Some u → left ≤ u.number
lower_still find later k left changes free q u is = by (same_timer_key k q) (sym (changes q) ∙ is)
  where
    by : (b : Bool) → cond b None (find q) ≡ Some u → left ≤ u.number
    by true gone = absurd cc
    by false there = free q u there

no_turn : (u : Turn) → None ≡ Some u → ⊥
no_turn u is = absurd cc

not_both : (b : Bool) → not b ≡ true → b ≡ true → ⊥
not_both true one two = absurd cc
not_both false one two = absurd cc

-- what has another turn has another key
pub other : (find : Find) (k : TimerKey) (u : Turn) → find k ≡ Some u → (e : Turn × Timer) → IsFound find e → not (has_turn u e) ≡ true → k ≡ key_of e.1 → ⊥
other find k u is e found has_not same = not_both (has_turn u e) has_not (turn_here u e (within u e.0 (sym is ∙ here find k e found same)))

-- one is cancelled
pub found_removed : (find later : Find) (k : TimerKey) (u : Turn) (es : List (Turn × Timer)) (left : ℕ) → find k ≡ Some u → Changes find k None later
    → AreFound es find left → AreFound (filter (λ e. not (has_turn u e)) es) later left
found_removed find later k u es left is changes all = record {
  each = all_kept (IsFound later) (λ e. not (has_turn u e)) es
      (all_mapped (IsFound find) (λ e. not (has_turn u e) ≡ true → IsFound later e) es
      (λ e found has_not. moved find later k None e changes (λ same. other find k u is e found has_not same) (no_turn e.0) found) all.each);
  free = lower_still find later k left changes all.free;
}

-- what is not set is cancelled
pub found_unset : (find later : Find) (k : TimerKey) (es : List (Turn × Timer)) (left : ℕ) → find k ≡ None → Changes find k None later
    → AreFound es find left → AreFound es later left
found_unset find later k es left none changes all = record {
  each = all_mapped (IsFound find) (IsFound later) es (λ e found. moved find later k None e changes (missing find k e none found) (no_turn e.0) found) all.each;
  free = lower_still find later k left changes all.free;
}

-- Those of the application

abbrev Keeps : List ℕ → Find → Find → Type 0
Keeps app find later = (q : TimerKey) → later q ≡ cond (bytes_eq q.group app) (find q) None

-- those of the application alone are found
pub found_kept : (app : List ℕ) (find later : Find) (es : List (Turn × Timer)) (left : ℕ) → Keeps app find later → AreFound es find left → AreFound (filter (λ e. bytes_eq e.1.group app) es) later left
found_kept app find later es left keeps all = record {
  each = all_kept (IsFound later) (λ e. bytes_eq e.1.group app) es
      (all_mapped (IsFound find) (λ e. bytes_eq e.1.group app ≡ true → IsFound later e) es (λ e found is. still e found is) all.each);
  free = λ q u is. all.free q u (before q u (bytes_eq q.group app) (sym (keeps q) ∙ is));
}
  where
    before : (q : TimerKey) (u : Turn) (b : Bool) → cond b (find q) None ≡ Some u → find q ≡ Some u
    before q u true is = is
    before q u false is = absurd cc

    still : (e : Turn × Timer) → IsFound find e → bytes_eq e.1.group app ≡ true → IsFound later e
    still e found is = record {
      timed = found.timed;
      found = keeps (key_of e.1) ∙ ap (λ (b : Bool). cond b (find (key_of e.1)) None) is ∙ found.found;
      alone = λ q same. found.alone q (before q e.0 (bytes_eq q.group app) (sym (keeps q) ∙ same));
    }

-- One behind another

-- the first goes
pub found_behind : (find later : Find) (k : TimerKey) (p : Turn × Timer) (es : List (Turn × Timer)) (left : ℕ) → k ≡ key_of p.1 → Changes find k None later
    → AllByRecursion (λ e. has_turn p.0 e ≡ false) es → AreFound (p ∷ es) find left → AreFound es later left
found_behind find later k p es left is changes others all = record {
  each = all_mapped (λ e. IsFound find e × (has_turn p.0 e ≡ false)) (IsFound later) es
      (λ e both. moved find later k None e changes (another e both.0 both.1) (no_turn e.0) both.0)
      (all_joined (IsFound find) (λ e. has_turn p.0 e ≡ false) es all.each.1 others);
  free = lower_still find later k left changes all.free;
}
  where
    unlike_itself : (b : Bool) → b ≡ true → b ≡ false → ⊥
    unlike_itself true one two = absurd cc
    unlike_itself false one two = absurd cc

    another : (e : Turn × Timer) → IsFound find e → has_turn p.0 e ≡ false → k ≡ key_of e.1 → ⊥
    another e found apart same =
        unlike_itself (has_turn p.0 e) (turn_here p.0 e (within p.0 e.0 (sym (here find k p all.each.0 is) ∙ here find k e found same))) apart

pub timed_each : (find : Find) (es : List (Turn × Timer)) → AllByRecursion (IsFound find) es → AllByRecursion (λ e. e.0.due ≡ e.1.due) es
timed_each find es each = all_mapped (IsFound find) (λ e. e.0.due ≡ e.1.due) es (λ e found. found.timed) each

pub view_behind : (now : ℕ) (p : Turn × Timer) (es : List (Turn × Timer)) → is_due now p.1 ≡ true
    → filter (λ t. not (is_due now t)) (in_setting_order es) ≡ filter (λ t. not (is_due now t)) (in_setting_order (p ∷ es))
view_behind now p es is =
    sym (order_kept (λ t. not (is_due now t)) es)
    ∙ ap in_setting_order (sym (gone is))
    ∙ order_kept (λ t. not (is_due now t)) (p ∷ es)
  where
    gone : is_due now p.1 ≡ true → filter (λ e. not (is_due now e.1)) (p ∷ es) ≡ filter (λ e. not (is_due now e.1)) es
    gone is = rw is refl

pub view_none : (now : ℕ) (es : List (Turn × Timer)) → AllByRecursion (λ e. is_due now e.1 ≡ false) es → in_setting_order es ≡ filter (λ t. not (is_due now t)) (in_setting_order es)
view_none now es none =
    ap in_setting_order (sym (filter_whole (λ e. not (is_due now e.1)) es (all_mapped (λ e. is_due now e.1 ≡ false) (λ e. not (is_due now e.1) ≡ true) es (λ e h. ap not h) none)))
    ∙ order_kept (λ t. not (is_due now t)) es

-- Where a key is not copied

pub found_filtered : (find : Find) (p : Turn × Timer → Bool) (es : List (Turn × Timer)) (left : ℕ) → AreFound es find left → AreFound (filter p es) find left
found_filtered find p es left all = record { each = all_filter (IsFound find) p es all.each; free = all.free }

pub view_without : (g : List ℕ) (n m : ℤ) (es : List (Turn × Timer)) → n ≡ m → in_setting_order (filter (λ e. not (is_timer g n e.1)) es) ≡ cancelled g m (in_setting_order es)
view_without g n m es same = order_kept (λ t. not (is_timer g n t)) es ∙ ap (λ (z : ℤ). cancelled g z (in_setting_order es)) same
