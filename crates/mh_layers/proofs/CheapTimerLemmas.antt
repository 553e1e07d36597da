-- By a flow within another there are no more timers, and inputs come to no more.
use Rattle.std.specs.Prelude.{◌≡◌, ◌≤◌, Bool, true, false, ◌||◌, if◌then◌else◌, List, [], ◌∷◌, filter, None, Some, refl}
use Rattle.std.specs.List.{flat_map, list_any}
use Rattle.std.proofs.Common.{◌∙◌, arith, inl, inr, ap, sym, subst}
use Rattle.mh_base.specs.declared.obj_ref.ObjRef.{ObjRef}
use Rattle.mh_base.specs.declared.value.Value.TheVariants as value
use Rattle.mh_base.specs.declared.event.EventType.TheVariants as event
use Rattle.mh_group.specs.declared.action_name.ActionName.{ActionName}
use Rattle.mh_group.specs.declared.action_name.ActionName.TheVariants as action
use Rattle.mh_group.specs.declared.class.Class.{Class}
use Rattle.mh_group.specs.declared.class.Class.TheVariants as class
use Rattle.mh_group.specs.Table.{is_stream}
use Rattle.mh_model.specs.declared.act.Act.{Act}
use Rattle.mh_model.specs.declared.act.Argument.{Argument}
use Rattle.mh_model.specs.declared.act.Argument.TheVariants as argument
use Rattle.mh_model.specs.declared.config.Config.{Config}
use Rattle.mh_model.specs.declared.input.Input.{Input}
use Rattle.mh_model.specs.declared.input.Input.TheVariants as input
use Rattle.mh_model.specs.declared.object.Fixed.{Fixed}
use Rattle.mh_model.specs.Configuration.{present}
use Rattle.mh_model.specs.Known.{class_at}
use Rattle.mh_model.specs.Reference.{group_ref}
use Rattle.mh_model.specs.Service.{Service}
use Rattle.mh_laws.specs.Active.{active_actions}
use Rattle.mh_laws.specs.Budget.{count_timer}
use Rattle.mh_laws.specs.Costs.{TimerKey, arrival, can_lead_to_late, each_once, entry, heard_key, input_price, is_group_in, is_reader, late_by, late_scenes, pressed, same_timer, scene_change, set_by, set_timers, set_with, targets, timer_entry, timers}
use Rattle.mh_laws.specs.Each.{Among}
use Rattle.mh_laws.specs.Flow.{Flow}
use Rattle.mh_laws.specs.Price.{Nothing, if_price, sum_price}
use Rattle.mh_laws.specs.Ways.{Sure, Unsure, once}
use Rattle.mh_laws.proofs.SumLemmas.{IsCount}
use Rattle.mh_laws.proofs.TakenCostLemmas.{key_itself, key_same}
use Rattle.mh_layers.proofs.CheapCostLemmas.{emit_below, entry_below, exchange_below, leave_scene_below, targets_within}
use Rattle.mh_layers.proofs.CheapFlowLemmas.{IsWithin, configs_within}
use Rattle.mh_layers.proofs.CheapListLemmas.{Within, filtered_within, joined_within, mapped_within, once_less}
use Rattle.mh_layers.proofs.CheapPriceLemmas.{IsBelow, below_counted, below_dearest, below_if, below_itself, below_larger, below_most, below_plus, below_step, below_sum}

-- The timers that can be set

set_with_within : (n : ActionName) (xs : List Argument) (rs qs : List ObjRef) → Within rs qs → Within {X = TimerKey} (set_with n xs rs) (set_with n xs qs)
set_with_within action.SetTimer (argument.Direct (value.Int id) ∷ x ∷ more) rs qs h = mapped_within (λ (r : ObjRef). (r.group, id)) rs qs h
set_with_within _ xs rs qs h = λ t there. there

set_within_by : (least w : Flow) → IsWithin least w → (c : Config) (a : Act) → Within {X = TimerKey} (set_by least c a) (set_by w c a)
set_within_by least w k c a = set_with_within a.name a.arguments (targets least c a.target) (targets w c a.target) (targets_within least w k c a.target)

timers_within : (v : Service) (least w : Flow) → IsWithin least w → Within {X = TimerKey} (set_timers v least) (set_timers v w)
timers_within v least w k =
    joined_within (λ (c : Config). flat_map (set_by least c) (active_actions (present v c))) (λ (c : Config). flat_map (set_by w c) (active_actions (present v c))) least.configs w.configs (configs_within least w k)
    (λ c. joined_within (set_by least c) (set_by w c) (active_actions (present v c)) (active_actions (present v c)) (λ a there. there) (set_within_by least w k c))

-- Each of them once

count_keys : IsCount same_timer count_timer
count_keys = record { none = λ q. refl; more = λ q y ys. refl; itself = key_itself; alike = key_same }

any_among : (xs : List TimerKey) (x : TimerKey) → Among xs x → list_any (same_timer x) xs ≡ true
any_among [] x h = absurd cc
any_among (y ∷ xs) x (inl same) = first (same_timer x y) (list_any (same_timer x) xs) (subst (λ (z : TimerKey). same_timer x z ≡ true) (sym same) (key_itself x))
  where
    first : (a b : Bool) → a ≡ true → (a || b) ≡ true
    first true b e = refl
    first false b e = absurd cc
any_among (y ∷ xs) x (inr more) = second (same_timer x y) (list_any (same_timer x) xs) (any_among xs x more)
  where
    second : (a b : Bool) → b ≡ true → (a || b) ≡ true
    second true b e = refl
    second false b e = e

among_any : (xs : List TimerKey) (x : TimerKey) → list_any (same_timer x) xs ≡ true → Among xs x
among_any [] x h = absurd cc
among_any (y ∷ xs) x h = by (same_timer x y) refl h (among_any xs x)
  where
    by : (b : Bool) → same_timer x y ≡ b → (b || list_any (same_timer x) xs) ≡ true → (list_any (same_timer x) xs ≡ true → Among xs x) → Among (y ∷ xs) x
    by true e h behind = inl (sym (key_same x y e))
    by false e h behind = inr (behind h)

once_most : (b : Bool) → once b ≤ 1
once_most true = omega arith
once_most false = omega arith

-- one that is there stands there once, and no other does
once_each : (x : TimerKey) (ys : List TimerKey) → count_timer x (each_once ys) ≡ once (list_any (same_timer x) ys)
once_each x [] = refl
once_each x (y ∷ ys) = by (list_any (same_timer y) ys) refl (same_timer x y) refl (once_each x ys)
  where
    same_any : same_timer x y ≡ true → list_any (same_timer x) ys ≡ list_any (same_timer y) ys
    same_any f = ap (λ (z : TimerKey). list_any (same_timer z) ys) (key_same x y f)

    by : (a : Bool) → list_any (same_timer y) ys ≡ a → (b : Bool) → same_timer x y ≡ b → count_timer x (each_once ys) ≡ once (list_any (same_timer x) ys) → count_timer x (if a then each_once ys else y ∷ each_once ys) ≡ once (b || list_any (same_timer x) ys)
    by true e true f h = h ∙ ap once (same_any f ∙ e)
    by true e false f h = h
    by false e true f h =
        let one : once (same_timer x y) ≡ 1 = ap once f in
        let none : once (list_any (same_timer x) ys) ≡ 0 = ap once (same_any f ∙ e) in
        omega (arith, one, none, h)
    by false e false f h =
        let none : once (same_timer x y) ≡ 0 = ap once f in
        omega (arith, none, h)

timers_fewer : (v : Service) (least w : Flow) → IsWithin least w → (c : Config) (x : TimerKey) → count_timer x (timers v least c) ≤ count_timer x (timers v w c)
timers_fewer v least w k c x =
    let own = once_each x (of least) in
    let other = once_each x (of w) in
    let less = once_less (list_any (same_timer x) (of least)) (list_any (same_timer x) (of w)) follows in
    omega (arith, own, other, less)
  where
    of : Flow → List TimerKey
    of z = filter (λ (t : TimerKey). is_group_in c t.0) (set_timers v z)

    follows : list_any (same_timer x) (of least) ≡ true → list_any (same_timer x) (of w) ≡ true
    follows e =
        any_among (of w) x
        (filtered_within (λ (t : TimerKey). is_group_in c t.0) (set_timers v least) (set_timers v w) (timers_within v least w k) x (among_any (of least) x e))

timer_entry_below : (v : Service) (least w : Flow) → IsWithin least w → (t : TimerKey) → IsBelow (timer_entry v least t) (timer_entry v w t)
timer_entry_below v least w k t = entry_below v least w k (group_ref t.0) event.TimerFired (Sure (Some (value.Int t.1)))

ticks_below : (v : Service) (least w : Flow) → IsWithin least w → (c : Config) → IsBelow (sum_price (timer_entry v least) (timers v least c)) (sum_price (timer_entry v w) (timers v w c))
ticks_below v least w k c =
    below_counted same_timer count_timer count_keys (timer_entry v least) (timer_entry v w) (timer_entry_below v least w k) (timers v least c) (timers v w c) (timers_fewer v least w k c)

-- Inputs

pressed_below : (v : Service) (least w : Flow) → IsWithin least w → (c : Config) (r : ObjRef) (x : Class) → IsBelow (pressed v least c r x) (pressed v w c r x)
pressed_below v least w k c r class.EntryField = below_larger (emit_below v least w k c r event.EntryFieldFull (Sure None)) (emit_below v least w k c r event.InteractionCompleted (Sure None))
pressed_below v least w k c r class.PushButton = below_larger (emit_below v least w k c r event.IsSelected (Sure None)) (emit_below v least w k c r event.InteractionCompleted (Sure None))
pressed_below v least w k c r _ = below_itself Nothing

-- fewer late scenes are led to, and none is dearer

late_within : (v : Service) (least w : Flow) → IsWithin least w → (c : Config) → Within (late_scenes v least c) (late_scenes v w c)
late_within v least w k c =
    joined_within (late_by v least c) (late_by v w c) (active_actions (present v c)) (active_actions (present v c)) (λ a there. there)
    (λ a. mapped_within (λ (r : ObjRef). r.group) (filter (can_lead_to_late v a.name) (targets least c a.target)) (filter (can_lead_to_late v a.name) (targets w c a.target))
    (filtered_within (can_lead_to_late v a.name) (targets least c a.target) (targets w c a.target) (targets_within least w k c a.target)))

arrival_below : (v : Service) (least w : Flow) → IsWithin least w → (c : Config) → IsBelow (arrival v least c) (arrival v w c)
arrival_below v least w k c =
    below_step
    (below_larger
    (below_sum (λ (p : Fixed). if_price (is_reader (class_at p.key (present v c))) (entry v least p.key event.ContentAvailable (Sure None))) (λ (p : Fixed). if_price (is_reader (class_at p.key (present v c))) (entry v w p.key event.ContentAvailable (Sure None)))
    (λ p. below_if (is_reader (class_at p.key (present v c))) (is_reader (class_at p.key (present v c))) (λ e. e) (entry_below v least w k p.key event.ContentAvailable (Sure None))) (present v c))
    (below_dearest (scene_change v least c) (scene_change v w c) (λ g. below_plus (leave_scene_below v least w k c) (exchange_below v least w k c g))
    (late_scenes v least c) (late_scenes v w c) (late_within v least w k c)))

pub input_below : (v : Service) (least w : Flow) → IsWithin least w → (c : Config) (i : Input) → IsBelow (input_price v least c i) (input_price v w c i)
input_below v least w k c (input.Key x) =
    below_step
    (below_larger (below_itself (heard_key v c)) (below_most (λ (p : Fixed). pressed v least c p.key p.class) (λ (p : Fixed). pressed v w c p.key p.class) (λ p. pressed_below v least w k c p.key p.class) (present v c)))
input_below v least w k c (input.Tick n) = below_step (ticks_below v least w k c)
input_below v least w k c (input.Stream n) =
    below_step
    (below_sum (λ (p : Fixed). if_price (is_stream p.class) (entry v least p.key event.StreamEvent Unsure)) (λ (p : Fixed). if_price (is_stream p.class) (entry v w p.key event.StreamEvent Unsure))
    (λ p. below_if (is_stream p.class) (is_stream p.class) (λ e. e) (entry_below v least w k p.key event.StreamEvent Unsure)) (present v c))
input_below v least w k c (input.Engine n) = below_itself (input_price v w c (input.Engine n))
input_below v least w k c (input.Arrive x) = arrival_below v least w k c
input_below v least w k c (input.Scene g x) = arrival_below v least w k c
