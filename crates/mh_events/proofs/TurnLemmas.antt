-- The timers by their turns, as they change.
use Rattle.std.specs.Prelude.{◌≡◌, ℕ, Bool, true, false, cond, not, nat_le, List, [], ◌∷◌, filter, refl}
use Rattle.std.specs.declared.cmp.Ordering.{Ordering}
use Rattle.std.specs.declared.cmp.Ordering.TheVariants.{Less, Equal, Greater}
use Rattle.std.specs.BTreeMap.{is_at}
use Rattle.std.specs.List.{AllByRecursion}
use Rattle.std.specs.List.Sorted.{IsStrictlySortedBy}
use Rattle.std.specs.Map.{keys_of, remove_entry}
use Rattle.std.specs.Map.Calls.{RetainsPairs}
use Rattle.std.specs.Ordering.{is_eq, is_gt, nat_cmp, ordering_then}
use Rattle.std.proofs.Common.{ap, ◌∙◌, sym, arith, subst}
use Rattle.std.proofs.lemmas.Bool.Decides.{nat_tests}
use Rattle.std.proofs.lemmas.Cmp.{eq_by_cmp_equiv}
use Rattle.std.proofs.lemmas.Map.Entries.{none_past_head}
use Rattle.std.proofs.lemmas.Map.Keys.{IsDistinct-from_sorted}
use Rattle.mh_model.specs.declared.time.Timer.{Timer}
use Rattle.mh_model.specs.Time.{is_due}
use Rattle.mh_events.specs.declared.turn.Turn.{Turn}
use Rattle.mh_events.specs.Turns.{has_turn, is_first_due, turn_cmp, AreTimed}
use Rattle.mh_events.proofs.EachLemmas.{all_mapped, filter_whole}
use Rattle.mh_events.proofs.KeyLemmas.{turn_total}

-- what is retained by a test is a filter
module _ {K X F : Type 0} (T : F → K → X → Bool → X → F → Type 0) (test : K × X → Bool) (f : F)
    (says : (k : K) (v : X) (b : Bool) (w : X) (g : F) → T f k v b w g → (b ≡ test (k, v)) × (w ≡ v) × (g ≡ f)) where
  pub filter_retained : (es kept : List (K × X)) → RetainsPairs T f es kept → kept ≡ filter test es
  filter_retained [] kept h = h
  filter_retained (e ∷ es) kept h =
      let s = says e.0 e.1 h.0 h.1 h.2 h.4 in
      let rest = filter_retained es h.3 (subst (λ g. RetainsPairs T g es h.3) s.2 h.5) in
      h.6 ∙ (λ j. cond (s.0 j) ((e.0, s.1 j) ∷ rest j) (rest j))

pub rest_sorted : (u : Turn) (us : List Turn) → IsStrictlySortedBy turn_cmp (u ∷ us) → IsStrictlySortedBy turn_cmp us
unfolding IsStrictlySortedBy
rest_sorted u us sorted = sorted.1

pub first_least : (u : Turn) (us : List Turn) → IsStrictlySortedBy turn_cmp (u ∷ us) → AllByRecursion (λ v. turn_cmp u v ≡ Less) us
unfolding IsStrictlySortedBy
first_least u us sorted = sorted.0

pub by_entry : (P : Turn → Type 0) (es : List (Turn × Timer)) → AllByRecursion P (keys_of es) → AllByRecursion (λ e. P e.0) es
by_entry P [] all = all
by_entry P (e ∷ es) all = (all.0, by_entry P es all.1)

-- one that is removed by its turn
pub filter_removed : (u : Turn) (es : List (Turn × Timer)) → IsStrictlySortedBy turn_cmp (keys_of es) → remove_entry (is_at (turn_cmp u)) es ≡ filter (λ e. not (has_turn u e)) es
filter_removed u [] sorted = refl
filter_removed u (e ∷ es) sorted = by (filter_removed u es (rest_sorted e.0 (keys_of es) sorted)) (is_at (turn_cmp u) e.0) refl
  where
    by : remove_entry (is_at (turn_cmp u)) es ≡ filter (λ e. not (has_turn u e)) es → (b : Bool) → is_at (turn_cmp u) e.0 ≡ b
        → cond b es (e ∷ remove_entry (is_at (turn_cmp u)) es) ≡ cond (not b) (e ∷ filter (λ e. not (has_turn u e)) es) (filter (λ e. not (has_turn u e)) es)
    by rest true is = sym (filter_whole (λ e. not (has_turn u e)) es
        (all_mapped (λ d. has_turn u d ≡ false) (λ d. not (has_turn u d) ≡ true) es (λ d h. ap not h)
        (none_past_head (eq_by_cmp_equiv turn_total) u e es (IsDistinct-from_sorted turn_cmp (keys_of (e ∷ es)) sorted) is)))
    by rest false is = ap (λ (l : List (Turn × Timer)). e ∷ l) rest

-- Those that are due

before : (o p : Ordering) → ordering_then o p ≡ Less → is_gt o ≡ false
before Less p is = refl
before Equal p is = refl
before Greater p is = absurd cc

rising : (a b now : ℕ) → is_gt (nat_cmp a b) ≡ false → nat_le a now ≡ false → nat_le b now ≡ false
rising a b now up late = grind (arith, nat_tests)

-- where the first is not due, none is
pub none_due : (now : ℕ) (e : Turn × Timer) (es : List (Turn × Timer)) → is_due now e.1 ≡ false → IsStrictlySortedBy turn_cmp (keys_of (e ∷ es)) → AreTimed (e ∷ es) → AllByRecursion (λ d. is_due now d.1 ≡ false) (e ∷ es)
none_due now e es late sorted timed = (late, later es timed.1 (by_entry (λ v. turn_cmp e.0 v ≡ Less) es (first_least e.0 (keys_of es) sorted)))
  where
    one : (d : Turn × Timer) → d.0.due ≡ d.1.due → turn_cmp e.0 d.0 ≡ Less → is_due now d.1 ≡ false
    one d is less =
        let up = before (nat_cmp e.0.due d.0.due) (nat_cmp e.0.number d.0.number) less in
        let first : nat_le e.0.due now ≡ false = ap (λ (n : ℕ). nat_le n now) timed.0 ∙ late in
        ap (λ (n : ℕ). nat_le n now) (sym is) ∙ rising e.0.due d.0.due now up first

    later : (ds : List (Turn × Timer)) → AreTimed ds → AllByRecursion (λ d. turn_cmp e.0 d.0 ≡ Less) ds → AllByRecursion (λ d. is_due now d.1 ≡ false) ds
    later [] is less = less
    later (d ∷ ds) is less = (one d is.0 less.0, later ds is.1 less.1)

pub none_due_in : (now : ℕ) (es : List (Turn × Timer)) → is_first_due now es ≡ false → IsStrictlySortedBy turn_cmp (keys_of es) → AreTimed es → AllByRecursion (λ d. is_due now d.1 ≡ false) es
none_due_in now [] late sorted timed = cc
none_due_in now (e ∷ es) late sorted timed = none_due now e es late sorted timed

-- the turns behind the first are others
pub others_behind : (u : Turn) (es : List (Turn × Timer)) → AllByRecursion (λ v. turn_cmp u v ≡ Less) (keys_of es) → AllByRecursion (λ e. has_turn u e ≡ false) es
others_behind u es less = all_mapped (λ e. turn_cmp u e.0 ≡ Less) (λ e. has_turn u e ≡ false) es (λ e h. ap is_eq h) (by_entry (λ v. turn_cmp u v ≡ Less) es less)
