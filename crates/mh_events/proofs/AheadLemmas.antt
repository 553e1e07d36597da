-- How much time lies ahead, when what waits changes.
use Rattle.std.specs.Prelude.{◌≡◌, ◌+◌, ◌≤◌, Bool, true, false, cond, List, [], ◌∷◌, ◌++◌, map, filter, drop, slice_get, Option, Some, refl}
use Rattle.std.specs.Option.{option_map_or}
use Rattle.std.proofs.Common.{arith, ap, ◌∙◌, sym}
use Rattle.std.proofs.lemmas.List.Sums.{sum_by-cons, sum_by-append}
use Rattle.mh_model.specs.declared.event.Event.{Event}
use Rattle.mh_model.specs.declared.input.Waiting.{Waiting}
use Rattle.mh_model.specs.declared.input.Waiting.TheVariants as waiting
use Rattle.mh_model.specs.declared.time.Timer.{Timer}
use Rattle.mh_model.specs.Step.{time_of, time_ahead}
use Rattle.mh_model.specs.Time.{timer_event}
use Rattle.mh_events.proofs.CountLemmas.{no_time}

pub ahead_append : (ws xs : List Waiting) → time_ahead (ws ++ xs) ≡ time_ahead ws + time_ahead xs
ahead_append ws xs = sum_by-append time_of ws xs

pub ahead_events : (ws : List Waiting) (es : List Event) → time_ahead (ws ++ map waiting.Event es) ≡ time_ahead ws
ahead_events ws es =
    let none = no_time es in
    let whole = ahead_append ws (map waiting.Event es) in
    omega (arith, none, whole)

-- the first, and what is behind it
pub ahead_first : (ws : List Waiting) (w : Waiting) → Some w ≡ slice_get ws 0 → time_ahead ws ≡ time_of w + time_ahead (drop 1 ws)
ahead_first [] w first = absurd cc
ahead_first (x ∷ ws) w first =
    let same : w ≡ x = ap (λ (m : Option Waiting). option_map_or (λ (y : Waiting). y) m w) first in
    sum_by-cons time_of x ws ∙ ap (λ (y : Waiting). time_of y + time_ahead ws) (sym same)

pub ahead_behind : (ws : List Waiting) → time_ahead (drop 1 ws) ≤ time_ahead ws
ahead_behind [] = omega arith
ahead_behind (x ∷ ws) = let whole = sum_by-cons time_of x ws in omega (arith, whole)

-- what goes takes its time along
pub ahead_filter : (p : Waiting → Bool) (ws : List Waiting) → time_ahead (filter p ws) ≤ time_ahead ws
ahead_filter p [] = omega arith
ahead_filter p (w ∷ ws) = by (p w) (ahead_filter p ws)
  where
    by : (b : Bool) → time_ahead (filter p ws) ≤ time_ahead ws → time_ahead (cond b (w ∷ filter p ws) (filter p ws)) ≤ time_ahead (w ∷ ws)
    by true less = let one = sum_by-cons time_of w (filter p ws) in let whole = sum_by-cons time_of w ws in omega (arith, less, one, whole)
    by false less = let whole = sum_by-cons time_of w ws in omega (arith, less, whole)

-- the events of timers, as they wait
pub fired_as : (ts : List Timer) → map waiting.Event (map timer_event ts) ≡ map (λ t. waiting.Event (timer_event t)) ts
fired_as [] = refl
fired_as (t ∷ ts) = ap (λ (ws : List Waiting). waiting.Event (timer_event t) ∷ ws) (fired_as ts)
