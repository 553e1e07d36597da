-- The timers that are set, by their turns.
use Rattle.std.specs.Prelude.{◌≡◌, ℕ, ◌≤◌, Bool, false, ◌&&◌, nat_lt, if◌then◌else◌, List, [], ◌∷◌, map, slice_get, Option, Some}
use Rattle.std.specs.declared.cmp.Ordering.{Ordering}
use Rattle.std.specs.BTreeMap.{is_at}
use Rattle.std.specs.List.{AllByRecursion, fold}
use Rattle.std.specs.Map.{lookup}
use Rattle.std.specs.Option.{option_map_or}
use Rattle.std.specs.Ordering.{int_eq, nat_cmp, ordering_then}
use Rattle.std.specs.Str.{bytes_eq}
use Rattle.mh_model.specs.declared.time.Timer.{Timer}
use Rattle.mh_model.specs.Time.{is_due}
use Rattle.mh_events.specs.declared.timer_key.TimerKey.{TimerKey}
use Rattle.mh_events.specs.declared.turn.Turn.{Turn}

-- by the moment, and of one moment by the number
abbrev pub turn_cmp : Turn → Turn → Ordering
turn_cmp a b = ordering_then (nat_cmp a.due b.due) (nat_cmp a.number b.number)

-- it stands at this turn
abbrev pub has_turn : Turn → Turn × Timer → Bool
has_turn u e = is_at (turn_cmp u) e.0

-- each stands at the moment from which on it is due
abbrev pub AreTimed : List (Turn × Timer) → Type 0
AreTimed es = AllByRecursion (λ e. e.0.due ≡ e.1.due) es

-- the first is due
abbrev pub is_first_due : ℕ → List (Turn × Timer) → Bool
is_first_due now es = option_map_or (λ e. is_due now e.1) (slice_get es 0) false

-- In the order of setting

-- a timer in front of the first that is newer
abbrev pub put : Turn × Timer → List (Turn × Timer) → List (Turn × Timer)
put e [] = e ∷ []
put e (x ∷ xs) = if nat_lt x.0.number e.0.number then e ∷ x ∷ xs else x ∷ put e xs

-- the oldest first
abbrev pub by_age : List (Turn × Timer) → List (Turn × Timer) → List (Turn × Timer)
by_age = fold (λ l e. put e l)

-- the timers in the order in which they were set
abbrev pub in_setting_order : List (Turn × Timer) → List Timer
in_setting_order es = map (λ e. e.1) (by_age [] es)

-- How a turn is found

abbrev pub same_timer_key : TimerKey → TimerKey → Bool
same_timer_key a b = int_eq a.id b.id && bytes_eq a.group b.group

abbrev pub key_of : Timer → TimerKey
key_of t = record { id = t.id; group = t.group }

abbrev pub turn_of : List (TimerKey × Turn) → TimerKey → Option Turn
turn_of turns k = lookup (same_timer_key k) turns

-- a timer stands at its moment, its turn is found by its key, and by no other
pub record IsFound (find : TimerKey → Option Turn) (e : Turn × Timer) : Type 0 where
  pub timed : e.0.due ≡ e.1.due
  pub found : find (key_of e.1) ≡ Some e.0
  pub alone : (k : TimerKey) → find k ≡ Some e.0 → k ≡ key_of e.1

-- all timers are found, and the numbers below this one are free
pub record AreFound (timers : List (Turn × Timer)) (find : TimerKey → Option Turn) (left : ℕ) : Type 0 where
  pub each : AllByRecursion (IsFound find) timers
  pub free : (k : TimerKey) (u : Turn) → find k ≡ Some u → left ≤ u.number
