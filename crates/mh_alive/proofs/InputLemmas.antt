-- What inputs put to work lives; so what may be put to work is closed, and what is not of it is never put.
use Rattle.std.specs.Prelude.{◌≡◌, ℕ, Bool, true, false, not, if◌then◌else◌, List, [], ◌∷◌, map, filter, Option, Some, None, refl}
use Rattle.std.specs.List.{flat_map, list_all, list_any}
use Rattle.std.specs.Option.{option_map_or}
use Rattle.std.proofs.Common.{sym, subst, inl, inr}
use Rattle.mh_base.specs.declared.event.EventType.{EventType}
use Rattle.mh_base.specs.declared.event.EventType.TheVariants as event
use Rattle.mh_base.specs.declared.obj_ref.ObjRef.{ObjRef}
use Rattle.mh_base.specs.declared.value.Value.TheVariants as value
use Rattle.mh_group.specs.declared.action_name.ActionName.{ActionName}
use Rattle.mh_group.specs.declared.action_name.ActionName.TheVariants as action
use Rattle.mh_group.specs.declared.class.Class.{Class}
use Rattle.mh_group.specs.declared.class.Class.TheVariants as class
use Rattle.mh_group.specs.Table.{is_stream}
use Rattle.mh_model.specs.declared.act.Act.{Act}
use Rattle.mh_model.specs.declared.act.Argument.{Argument}
use Rattle.mh_model.specs.declared.act.Argument.TheVariants as argument
use Rattle.mh_model.specs.declared.config.Config.{Config}
use Rattle.mh_model.specs.declared.input.Input.{Input}
use Rattle.mh_model.specs.declared.input.Input.TheVariants as input
use Rattle.mh_model.specs.declared.event.Event.{Event}
use Rattle.mh_model.specs.declared.object.Fixed.{Fixed}
use Rattle.mh_model.specs.Configuration.{present, starting}
use Rattle.mh_model.specs.Known.{class_at}
use Rattle.mh_model.specs.Reference.{group_ref, same_key}
use Rattle.mh_model.specs.Service.{Service}
use Rattle.mh_model.specs.Step.{engine_event, key_event}
use Rattle.mh_laws.specs.Active.{active_actions}
use Rattle.mh_laws.specs.Budget.{IsAccepted}
use Rattle.mh_laws.specs.Costs as costs
use Rattle.mh_laws.specs.Costs.{TimerKey, arrival, each_once, effect_at, entry, fired, heard_key, input_price, is_group_in, is_reader, late_scenes, pressed, same_timer, scene_change, set_with, targets, timer_entry, timers}
use Rattle.mh_laws.specs.Each.{Among}
use Rattle.mh_laws.specs.Flow.{Flow, reached}
use Rattle.mh_never.specs.Firing.{FiresLiving, FiresNone, HoldsOfNext, IsUnput, fires}
use Rattle.mh_never.specs.Never.{IsClosed}
use Rattle.mh_laws.specs.Price.{Nothing, if_price}
use Rattle.mh_never.specs.Running.{Doings, IsRunClosed, Runners, any_act}
use Rattle.mh_never.specs.Saying.{IsSaidClosed, Sayings}
use Rattle.mh_laws.specs.Ways.{Sure, Unsure}
use Rattle.mh_laws.proofs.EachLemmas.{among_each, among_joined, among_mapped, from_joined, from_mapped}
use Rattle.mh_never.proofs.NeverLemmas.{never_others as law}
use Rattle.mh_laws.proofs.NodeLemmas.{among_is}
use Rattle.mh_laws.proofs.PriceLemmas.{nodes_if, nodes_most, nodes_sum}
use Rattle.mh_alive.specs.Alive.{Alive, InEachRun, IsAliveOf, never_put}
use Rattle.mh_alive.specs.Puts.{web}
use Rattle.mh_alive.specs.Tellings.{set_by, set_in, set_to, tells_itself, timer}
use Rattle.mh_alive.proofs.ActLemmas.{active_effect, acts_live}
use Rattle.mh_alive.proofs.ClosedLemmas.{Lives, emit_lives, enter_lives, entry_lives, exchange_lives, fired_lives, itself_comes, leave_scene_lives}
use Rattle.mh_alive.proofs.ComingLemmas.{always_comes, lives_in, timer_comes}
use Rattle.mh_alive.proofs.RunLemmas.{comes_where}

-- Keys

key_heard : (v : Service) (w : Flow) (a : Alive) → IsAliveOf v w a → (c : Config) → Lives a (heard_key v c)
key_heard v w a is c = by c.scene
  where
    by : (m : Option (List ℕ)) → Lives a (option_map_or (λ g. fired v c (group_ref g) event.UserInput Unsure) m Nothing)
    by None = tt
    by (Some g) = fired_lives v w a is c (group_ref g) event.UserInput Unsure (always_comes (web v w) (group_ref g) event.UserInput Unsure refl)

field_tells : tells_itself class.EntryField ≡ event.EntryFieldFull ∷ event.InteractionCompleted ∷ []
unfolding tells_itself
field_tells = refl

button_tells : tells_itself class.PushButton ≡ event.IsSelected ∷ event.InteractionCompleted ∷ []
unfolding tells_itself
button_tells = refl

stream_tells : tells_itself class.Stream ≡ event.StreamEvent ∷ []
unfolding tells_itself
stream_tells = refl

in_table : (es fs : List EventType) → es ≡ fs → (kind : EventType) → Among fs kind → Among es kind
in_table es fs e kind h = subst (λ (xs : List EventType). Among xs kind) (sym e) h

press_lives : (v : Service) (w : Flow) (a : Alive) → IsAliveOf v w a → (c : Config) → reached w c ≡ true → (p : Fixed) → Among (present v c) p → (k : Class) → p.class ≡ k → Lives a (pressed v w c p.key k)
press_lives v w a is c among p there class.EntryField same = (
  emit_lives v w a is c p.key event.EntryFieldFull (Sure None) (itself_comes v w c p class.EntryField among there same event.EntryFieldFull (Sure None) (in_table _ _ field_tells event.EntryFieldFull (inl refl))),
  emit_lives v w a is c p.key event.InteractionCompleted (Sure None) (itself_comes v w c p class.EntryField among there same event.InteractionCompleted (Sure None) (in_table _ _ field_tells event.InteractionCompleted (inr (inl refl)))),
)
press_lives v w a is c among p there class.PushButton same = (
  emit_lives v w a is c p.key event.IsSelected (Sure None) (itself_comes v w c p class.PushButton among there same event.IsSelected (Sure None) (in_table _ _ button_tells event.IsSelected (inl refl))),
  emit_lives v w a is c p.key event.InteractionCompleted (Sure None) (itself_comes v w c p class.PushButton among there same event.InteractionCompleted (Sure None) (in_table _ _ button_tells event.InteractionCompleted (inr (inl refl)))),
)
press_lives v w a is c among p there _ same = tt

-- Timers

once_among : (ts : List TimerKey) (t : TimerKey) → Among (each_once ts) t → Among ts t
once_among [] t h = absurd cc
once_among (x ∷ ts) t h = by (list_any (same_timer x) ts) h (once_among ts t)
  where
    by : (b : Bool) → Among (if b then each_once ts else x ∷ each_once ts) t → (Among (each_once ts) t → Among ts t) → Among (x ∷ ts) t
    by true h further = inr (further h)
    by false (inl same) further = inl same
    by false (inr more) further = inr (further more)

from_filtered : {X : Type 0} (p : X → Bool) (xs : List X) (x : X) → Among (filter p xs) x → Among xs x
from_filtered p [] x h = absurd cc
from_filtered {X} p (y ∷ xs) x h = by (p y) h (λ k. from_filtered p xs x k)
  where
    by : (b : Bool) → Among (if b then y ∷ filter p xs else filter p xs) x → (Among (filter p xs) x → Among xs x) → Among (y ∷ xs) x
    by true (inl same) further = inl same
    by true (inr more) further = inr (further more)
    by false more further = inr (further more)

-- a timer that an action sets, with its group
record SetHere (v : Service) (w : Flow) (t : TimerKey) : Type 0 where
  config : Config
  among : reached w config ≡ true
  there : Among (set_in v w config) (record { at = group_ref t.0; id = t.1 })

pub set_one : (n : ActionName) (xs : List Argument) (rs : List ObjRef) (t : TimerKey) → Among (set_with n xs rs) t → Among (set_to n xs rs) (record { at = group_ref t.0; id = t.1 })
set_one action.SetTimer (argument.Direct (value.Int id) ∷ x ∷ more) rs t h =
    let r = from_mapped (λ (q : ObjRef). (q.group, id)) rs t h in
    subst (λ (y : TimerKey). Among (map (λ (q : ObjRef). timer q id) rs) (record { at = group_ref y.0; id = y.1 })) r.2 (among_mapped (λ (q : ObjRef). timer q id) rs r.0 r.1)
set_one _ xs rs t h = absurd cc

set_here : (v : Service) (w : Flow) (t : TimerKey) → Among (costs.set_timers v w) t → SetHere v w t
set_here v w t h =
    let c = from_joined (λ (d : Config). flat_map (costs.set_by w d) (active_actions (present v d))) w.configs t h in
    let x = from_joined (costs.set_by w c.0) (active_actions (present v c.0)) t c.2 in record {
      config = c.0;
      among = among_is w.configs c.0 c.1;
      there = among_joined (set_by (w.sets c.0)) (active_actions (present v c.0)) x.0 _ x.1
          (subst (λ (rs : List ObjRef). Among (set_to x.0.name x.0.arguments rs) (record { at = group_ref t.0; id = t.1 })) (sym (comes_where w c.0 x.0.target)) (set_one x.0.name x.0.arguments (targets w c.0 x.0.target) t x.2));
    }

timer_lives : (v : Service) (w : Flow) (a : Alive) → IsAliveOf v w a → (c : Config) (t : TimerKey) → Among (timers v w c) t → Lives a (timer_entry v w t)
timer_lives v w a is c t h =
    let s = set_here v w t (from_filtered (λ (x : TimerKey). is_group_in c x.0) (costs.set_timers v w) t (once_among (filter (λ (x : TimerKey). is_group_in c x.0) (costs.set_timers v w)) t h)) in
    entry_lives v w a is (group_ref t.0) event.TimerFired (Sure (Some (value.Int t.1))) (timer_comes v w s.config (record { at = group_ref t.0; id = t.1 }) s.among s.there)

-- Inputs

stream_lives : (v : Service) (w : Flow) (a : Alive) → IsAliveOf v w a → (c : Config) → reached w c ≡ true → (p : Fixed) → Among (present v c) p → (k : Class) → p.class ≡ k → is_stream k ≡ true → Lives a (entry v w p.key event.StreamEvent Unsure)
stream_lives v w a is c among p there class.Stream same h =
    entry_lives v w a is p.key event.StreamEvent Unsure (itself_comes v w c p class.Stream among there same event.StreamEvent Unsure (in_table _ _ stream_tells event.StreamEvent (inl refl)))
stream_lives v w a is c among p there _ same h = absurd cc

arrival_lives : (v : Service) (w : Flow) (a : Alive) → IsAliveOf v w a → (c : Config) → Lives a (arrival v w c)
arrival_lives v w a is c = (
  tt,
  (
    nodes_sum (λ y. lives_in a y ≡ true) (λ (p : Fixed). if_price (is_reader (class_at p.key (present v c))) (entry v w p.key event.ContentAvailable (Sure None))) (present v c)
        (λ p h. nodes_if (λ y. lives_in a y ≡ true) (is_reader (class_at p.key (present v c))) (entry v w p.key event.ContentAvailable (Sure None))
        (λ e. entry_lives v w a is p.key event.ContentAvailable (Sure None) (always_comes (web v w) p.key event.ContentAvailable (Sure None) refl))),
    nodes_most (λ y. lives_in a y ≡ true) (scene_change v w c) (late_scenes v w c) (λ g h. (leave_scene_lives v w a is c, exchange_lives v w a is c g)),
  ),
)

input_lives : (v : Service) (w : Flow) (a : Alive) → IsAliveOf v w a → (c : Config) → reached w c ≡ true → (i : Input) → Lives a (input_price v w c i)
input_lives v w a is c among (input.Key k) =
    (tt, (key_heard v w a is c, nodes_most (λ y. lives_in a y ≡ true) (λ (p : Fixed). pressed v w c p.key p.class) (present v c) (λ p h. press_lives v w a is c among p h p.class refl)))
input_lives v w a is c among (input.Tick n) = (tt, nodes_sum (λ y. lives_in a y ≡ true) (timer_entry v w) (timers v w c) (λ t h. timer_lives v w a is c t h))
input_lives v w a is c among (input.Stream n) = (
  tt,
  nodes_sum (λ y. lives_in a y ≡ true) (λ (p : Fixed). if_price (is_stream p.class) (entry v w p.key event.StreamEvent Unsure)) (present v c)
      (λ p h. nodes_if (λ y. lives_in a y ≡ true) (is_stream p.class) (entry v w p.key event.StreamEvent Unsure) (λ e. stream_lives v w a is c among p h p.class refl e)),
)
input_lives v w a is c among (input.Engine n) =
    (tt, fired_lives v w a is c (group_ref c.app) event.EngineEvent Unsure (always_comes (web v w) (group_ref c.app) event.EngineEvent Unsure refl))
input_lives v w a is c among (input.Arrive x) = arrival_lives v w a is c
input_lives v w a is c among (input.Scene g x) = arrival_lives v w a is c

-- All

abbrev pub all_run : Runners
all_run r = true

abbrev pub all_say : Sayings
all_say e = true

pub run_any : (v : Service) (w : Flow) (comes : Doings) → IsRunClosed v w comes all_run
run_any v w comes = record {
  first = λ c among p there active. refl;
  acts = λ c among x there may runs r comes. refl;
  lists = λ c among r q list has. refl;
  tokens = λ c among p there group. among_each (λ m. all_run m.object ≡ true) _ (λ m h. refl);
}

say_all : (v : Service) (w : Flow) → IsSaidClosed v w any_act all_say
say_all v w = record {
  usual = λ r kind d h. refl;
  sent = λ c among x there may sends y n more are kind numbered r d known. refl;
  timers = λ c among x there may t set. refl;
  keys = λ c among p there scene x passed. refl;
  registers = λ c among x there may sets n given r may_be y passed. refl;
}

all_any : (c : Config) (e : List Act) → list_all (any_act c) e ≡ true
all_any c [] = refl
all_any c (x ∷ e) = all_any c e

start_reached : (most : ℕ) (v : Service) (k : IsAccepted most v) → reached k.flow (starting v) ≡ true
start_reached most v k = ((k.acceptable).solution).start

pub put_closed : (v : Service) (w : Flow) (a : Alive) → IsAliveOf v w a → reached w (starting v) ≡ true → IsClosed v w all_run (lives_in a)
put_closed v w a is start = record {
  start = enter_lives v w a is (starting v) start v.start;
  inputs = λ c among i. input_lives v w a is c among i;
  causes = λ c p n on lives. acts_live v w a is c on.among (effect_at p n) (λ x h. active_effect v c p n x on.there on.active h);
}

pub unput : (most : ℕ) (v : Service) (k : IsAccepted most v) (a : Alive) (r : ObjRef) → IsAliveOf v k.flow a → never_put a r ≡ true → InEachRun v (IsUnput r)
unput most v k a r is never mjd fs ss ms s run = record {
  work = λ e first. none e (so.work e first);
  queue = λ e waits. none e (so.queue e waits);
  keys = λ x g scene hears. none (key_event x (group_ref g)) (so.keys x g scene hears);
  engine = λ n. none (engine_event n s.application) (so.engine n);
}
  where
    so : HoldsOfNext (FiresLiving (lives_in a) s) s
    so = (law most v k any_act all_run (run_any v k.flow any_act) all_say (say_all v k.flow) all_run (record { hears = λ c among p there runs e says hears. refl }) (lives_in a) (put_closed v k.flow a is (start_reached most v k)) (λ c p n on lives. all_any c (effect_at p n)) mjd fs ss ms s run).fired

    untrue : (b : Bool) → not b ≡ true → b ≡ true → ⊥
    untrue true n e = absurd cc
    untrue false n e = absurd cc

    -- a link that fires is one that may be put to work
    none : (e : Event) → FiresLiving (lives_in a) s e → FiresNone r s e
    none e h o own same = by (fires e o) refl
      where
        by : (b : Bool) → fires e o ≡ b → b ≡ false
        by true fired = absurd (untrue (list_any (same_key r) a.puts) never (subst (λ (q : ObjRef). list_any (same_key q) a.puts ≡ true) same (h o own fired)))
        by false fired = refl
