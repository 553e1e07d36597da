-- What may wait, and the events of objects that are meant.
use Rattle.std.specs.Prelude.{◌≡◌, ℕ, zero, suc, ◌+◌, Bool, true, false, not, cond, if◌then◌else◌, nat_le, List, [], ◌∷◌, ◌++◌, map, filter, take, slice_get, Some, None, refl}
use Rattle.std.proofs.Common.{ap, ◌∙◌}
use Rattle.mh_model.specs.declared.event.Event.{Event}
use Rattle.mh_model.specs.declared.input.Input.TheVariants as input
use Rattle.mh_model.specs.declared.input.Waiting.{Waiting}
use Rattle.mh_model.specs.declared.input.Waiting.TheVariants as waiting
use Rattle.mh_model.specs.declared.input.Input.{Input}
use Rattle.mh_model.specs.declared.input.Obstacle.TheVariants as refused
use Rattle.mh_model.specs.declared.object.Object.{Object}
use Rattle.mh_model.specs.State.{State}
use Rattle.mh_model.specs.Step.{time_ahead, obstacle, obstacle_if, is_in_range, is_not_late, is_another_group, is_over_size, is_over_number, is_past_the_last, is_full}
use Rattle.mh_model.specs.Limits.{most_moment}
use Rattle.mh_events.specs.Agenda.{Coming, passes_the_last}
use Rattle.mh_machine.specs.Taking.{event_by}

-- what nothing stands against is not too late
unbarred : (differs : Bool) (i : Input) (s : State) → obstacle_if differs i s ≡ None → is_past_the_last i s ≡ false
unbarred differs i s none = by s.ended (is_in_range i) (is_not_late i s) differs (is_over_size i) (is_over_number i s) (is_past_the_last i s) none
  where
    by : (a b f g d e c : Bool) → (if a then Some refused.Ended else (if not b then Some refused.TickRange else (if f then Some refused.NotLate else (if g then Some refused.Differs else (if d then Some refused.TooLarge else (if e then Some refused.TooMany else (if c then Some refused.ClockFull else (if is_full s then Some refused.QueueFull else None)))))))) ≡ None → c ≡ false
    by a b f g d e false h = refl
    by true b f g d e true h = absurd cc
    by false false f g d e true h = absurd cc
    by false true true g d e true h = absurd cc
    by false true false true d e true h = absurd cc
    by false true false false true e true h = absurd cc
    by false true false false false true true h = absurd cc
    by false true false false false false true h = absurd cc

pub in_time_if : (differs : Bool) (i : Input) (s : State) (a : Coming) → a.moments ≡ s.moments → a.queue ≡ s.queue → obstacle_if differs i s ≡ None → passes_the_last i a ≡ false
in_time_if differs (input.Tick n) s a moments queue none =
    ap (λ m. not (nat_le (m.present + time_ahead a.queue + n) most_moment)) moments
    ∙ ap (λ (q : List Waiting). not (nat_le (s.moments.present + time_ahead q + n) most_moment)) queue
    ∙ unbarred differs (input.Tick n) s none
in_time_if differs _ s a moments queue none = refl

pub in_time : (i : Input) (s : State) (a : Coming) → a.moments ≡ s.moments → a.queue ≡ s.queue → obstacle i s ≡ None → passes_the_last i a ≡ false
in_time i s a moments queue none = in_time_if (is_another_group i s) i s a moments queue none

-- The events of objects that are meant, object by object.

pub told_more : (is : Object → Bool) (event : Object → Event) (os : List Object) (i : ℕ) → map event (filter is (take (suc i) os)) ≡ map event (filter is (take i os)) ++ event_by is event (slice_get os i)
told_more is event [] zero = refl
told_more is event [] (suc i) = refl
told_more is event (o ∷ os) zero = refl
told_more is event (o ∷ os) (suc i) = by (is o) (told_more is event os i)
  where
    by : (b : Bool) → map event (filter is (take (suc i) os)) ≡ map event (filter is (take i os)) ++ event_by is event (slice_get os i) → map event (cond b (o ∷ filter is (take (suc i) os)) (filter is (take (suc i) os))) ≡ map event (cond b (o ∷ filter is (take i os)) (filter is (take i os))) ++ event_by is event (slice_get os i)
    by true more = ap (λ (es : List Event). event o ∷ es) more
    by false more = more

pub told_as : (event : Object → Event) (os : List Object) → map waiting.Event (map event os) ≡ map (λ o. waiting.Event (event o)) os
told_as event [] = refl
told_as event (o ∷ os) = ap (λ (ws : List Waiting). waiting.Event (event o) ∷ ws) (told_as event os)
