-- What is counted of a queue, as it changes.
use Rattle.std.specs.Prelude.{◌≡◌, ℕ, ◌+◌, suc, ◌≤◌, Bool, true, false, cond, List, [], ◌∷◌, ◌++◌, length, filter, map, refl}
use Rattle.std.proofs.Common.{ap, ◌∙◌, arith}
use Rattle.std.proofs.lemmas.List.Elements.{filter-append}
use Rattle.std.proofs.lemmas.List.Sums.{sum_by-append, sum_by-cons}
use lib.ListN.{length-append}
use Rattle.mh_model.specs.declared.event.Event.{Event}
use Rattle.mh_model.specs.declared.input.Input.{Input}
use Rattle.mh_model.specs.declared.input.Waiting.{Waiting}
use Rattle.mh_model.specs.declared.input.Waiting.TheVariants as waiting
use Rattle.mh_model.specs.Rules.{is_input}
use Rattle.mh_model.specs.Step.{inputs, time_of, time_ahead}
use Rattle.mh_events.specs.Queued.{AreCounted}

inputs-append : (xs ys : List Waiting) → inputs (xs ++ ys) ≡ inputs xs + inputs ys
inputs-append xs ys = ap length (filter-append is_input xs ys) ∙ length-append (filter is_input xs) (filter is_input ys)

-- no more inputs wait than there are things that wait
pub inputs_within : (ws : List Waiting) → inputs ws ≤ length ws
inputs_within [] = omega arith
inputs_within (w ∷ ws) = by (is_input w) (inputs_within ws)
  where
    by : (b : Bool) → inputs ws ≤ length ws → length (cond b (w ∷ filter is_input ws) (filter is_input ws)) ≤ length (w ∷ ws)
    by true h = omega (arith, h)
    by false h = omega (arith, h)

no_inputs : (es : List Event) → inputs (map waiting.Event es) ≡ 0
no_inputs [] = refl
no_inputs (e ∷ es) = no_inputs es

pub no_time : (es : List Event) → time_ahead (map waiting.Event es) ≡ 0
no_time [] = refl
no_time (e ∷ es) = no_time es

-- events are counted neither among inputs nor as time
pub counted_more : (ws : List Waiting) (es : List Event) (n t : ℕ) → AreCounted ws n t → AreCounted (ws ++ map waiting.Event es) n t
counted_more ws es n t counted = record {
  number = omega (arith, counted.number, inputs-append ws (map waiting.Event es), no_inputs es);
  time = omega (arith, counted.time, sum_by-append time_of ws (map waiting.Event es), no_time es);
}

inputs-keep : (p : Waiting → Bool) → ((i : Input) → p (waiting.Input i) ≡ true) → (ws : List Waiting) → inputs ws ≡ inputs (filter p ws)
inputs-keep p all [] = refl
inputs-keep p all (waiting.Input i ∷ ws) = rw (all i) (ap (λ (k : ℕ). suc k) (inputs-keep p all ws))
inputs-keep p all (waiting.Event e ∷ ws) = by (p (waiting.Event e)) (inputs-keep p all ws)
  where
    by : (b : Bool) → inputs ws ≡ inputs (filter p ws) → inputs ws ≡ inputs (cond b (waiting.Event e ∷ filter p ws) (filter p ws))
    by true h = h
    by false h = h

time-keep : (p : Waiting → Bool) → ((i : Input) → p (waiting.Input i) ≡ true) → (ws : List Waiting) → time_ahead ws ≡ time_ahead (filter p ws)
time-keep p all [] = refl
time-keep p all (waiting.Input i ∷ ws) =
    let front = sum_by-cons time_of (waiting.Input i) ws in
    let kept = sum_by-cons time_of (waiting.Input i) (filter p ws) in
    rw (all i) (omega (arith, front, kept, time-keep p all ws))
time-keep p all (waiting.Event e ∷ ws) = by (p (waiting.Event e)) (time-keep p all ws)
  where
    by : (b : Bool) → time_ahead ws ≡ time_ahead (filter p ws) → time_ahead ws ≡ time_ahead (cond b (waiting.Event e ∷ filter p ws) (filter p ws))
    by true h = h
    by false h = h

-- where no input goes, both counts stay
pub counted_kept : (p : Waiting → Bool) → ((i : Input) → p (waiting.Input i) ≡ true) → (ws : List Waiting) (n t : ℕ) → AreCounted ws n t → AreCounted (filter p ws) n t
counted_kept p all ws n t counted = record {
  number = counted.number ∙ inputs-keep p all ws;
  time = counted.time ∙ time-keep p all ws;
}

-- where inputs alone wait, and none of them goes, all stays
pub all_kept : (p : Waiting → Bool) → ((i : Input) → p (waiting.Input i) ≡ true) → (ws : List Waiting) → length ws ≤ inputs ws → ws ≡ filter p ws
all_kept p all [] none = refl
all_kept p all (waiting.Input i ∷ ws) none = rw (all i) (ap (λ (t : List Waiting). waiting.Input i ∷ t) (all_kept p all ws (omega (arith, none))))
all_kept p all (waiting.Event e ∷ ws) none = absurd (omega (arith, none, inputs_within ws))
