-- The timers that are set are of a closed set: only an action sets one, others go.
use Rattle.std.specs.Prelude.{◌≡◌, Bool, true, false, if◌then◌else◌, List, [], ◌∷◌, ◌++◌, ℕ, ℤ, pos, negsuc, not, slice_get, drop, Option, Some, None, nat_lt, ◌+◌, refl}
use Rattle.std.specs.Str.{bytes_eq}
use Rattle.std.proofs.Common.{sym, subst}
use Rattle.mh_base.specs.declared.obj_ref.ObjRef.{ObjRef}
use Rattle.mh_base.specs.declared.value.Value.{Value}
use Rattle.mh_base.specs.declared.value.Value.TheVariants as value
use Rattle.mh_base.specs.Event.{is_sync}
use Rattle.mh_group.specs.declared.action_name.ActionName.{ActionName}
use Rattle.mh_group.specs.declared.action_name.ActionName.TheVariants as action
use Rattle.mh_group.specs.Table.{is_application}
use Rattle.mh_model.specs.declared.act.Act.{Act}
use Rattle.mh_model.specs.declared.act.Argument.{Argument}
use Rattle.mh_model.specs.declared.fault.Fault.{Fault}
use Rattle.mh_model.specs.declared.input.Input.{Input}
use Rattle.mh_model.specs.declared.input.Input.TheVariants as input
use Rattle.mh_model.specs.declared.input.Obstacle.{Obstacle}
use Rattle.mh_model.specs.declared.input.Waiting.{Waiting}
use Rattle.mh_model.specs.declared.input.Waiting.TheVariants as waiting
use Rattle.mh_model.specs.declared.interaction.Interaction.{Interaction}
use Rattle.mh_model.specs.declared.item.Item.{Item}
use Rattle.mh_model.specs.declared.item.Item.TheVariants as item
use Rattle.mh_model.specs.declared.key.Key.{Key}
use Rattle.mh_model.specs.declared.object.Object.{Object}
use Rattle.mh_model.specs.declared.sort.Sort.{Sort}
use Rattle.mh_model.specs.declared.sort.Sort.TheVariants as sort
use Rattle.mh_model.specs.declared.time.Moments.{Moments}
use Rattle.mh_model.specs.declared.time.Timer.{Timer}
use Rattle.mh_model.specs.Arguments.{receivers, referred, values}
use Rattle.mh_model.specs.Configuration.{is_group_of}
use Rattle.mh_model.specs.Files.{is_loadable}
use Rattle.mh_model.specs.Items.{heard}
use Rattle.mh_model.specs.Reference.{group_ref}
use Rattle.mh_model.specs.Rules.{act_on, application_exchanged, begins, begins_or_waits, interact_rule, is_begun, leads_to_late, load_rule, loaded_with, rule, rule_by, scene_exchanged, transition_rule, whole_rule, widget_at}
use Rattle.mh_model.specs.Service.{object_at}
use Rattle.mh_model.specs.Sort.{sort_of}
use Rattle.mh_model.specs.State.{State, all}
use Rattle.mh_model.specs.Step.{awaits, did, key_taken, obstacle, posted, posted_by, pressed_at, scene_arrived, step, step_by, taking}
use Rattle.mh_model.specs.Time.{cancelled, entered_at, is_due, is_timer, set_timers, timed, timed_from}
use Rattle.mh_laws.specs.Each.{Each}
use Rattle.mh_laws.specs.Flow.{Flow}
use Rattle.mh_laws.specs.Safe.{IsFine, IsSafeBy, IsSafeItem, config_of}
use Rattle.mh_laws.proofs.EachLemmas.{each_joined}
use Rattle.mh_laws.proofs.MindLemmas.{timer_set}
use Rattle.mh_laws.proofs.ReadyLemmas.{first_item, free_first, sound_now}
use Rattle.mh_never.specs.Never.{IsSo}
use Rattle.mh_never.specs.Running.{Doings}
use Rattle.mh_never.specs.Saying.{IsSaidClosed, Sayings, fired_by}
use Rattle.mh_never.proofs.SayingLemmas.{IsTimerIn, timers_kept}

abbrev pub AreTimersIn : Sayings → List Timer → Type 0
AreTimersIn u ts = Each (IsTimerIn u) ts

-- one more, in the place of an older one of its number
timed_in : (u : Sayings) (g : List ℕ) (id : ℤ) (due : ℕ) (ts : List Timer) → u (fired_by (g, id)) ≡ true → AreTimersIn u ts → AreTimersIn u (timed g id due ts)
timed_in u g id due ts may h = each_joined (IsTimerIn u) (cancelled g id ts) (record { group = g; id = id; due = due } ∷ []) (timers_kept u (λ t. not (is_timer g id t)) ts h) (may, tt)

from_in : (u : Sayings) (from : ℕ) (n : ℤ) (g : List ℕ) (id : ℤ) (now : ℕ) (ts : List Timer) → u (fired_by (g, id)) ≡ true → AreTimersIn u ts → AreTimersIn u (timed_from from n g id now ts)
from_in u from (pos n) g id now ts may h = by (nat_lt (from + n) now)
  where
    by : (b : Bool) → AreTimersIn u (if b then cancelled g id ts else timed g id (from + n) ts)
    by true = timers_kept u (λ t. not (is_timer g id t)) ts h
    by false = timed_in u g id (from + n) ts may h
from_in u from (negsuc n) g id now ts may h = timers_kept u (λ t. not (is_timer g id t)) ts h

set_in : (u : Sayings) (vs : List Value) (app g : List ℕ) (m : Moments) (ts : List Timer) → ((id : ℤ) (x : Value) (more : List Value) → vs ≡ value.Int id ∷ x ∷ more → u (fired_by (g, id)) ≡ true) → AreTimersIn u ts → AreTimersIn u (set_timers vs app g m ts)
set_in u (value.Int id ∷ []) app g m ts may h = timers_kept u (λ t. not (is_timer g id t)) ts h
set_in u (value.Int id ∷ value.Int n ∷ []) app g m ts may h = from_in u m.present n g id m.present ts (may id (value.Int n) [] refl) h
set_in u (value.Int id ∷ value.Int n ∷ value.Bool absolute ∷ []) app g m ts may h =
    from_in u (if absolute then entered_at app g m else m.present) n g id m.present ts (may id (value.Int n) (value.Bool absolute ∷ []) refl) h
set_in u _ app g m ts may h = h

-- RULES. All but one leave the timers as they are.

abbrev Stays : State → State → Type 0
Stays s t = t.timers ≡ s.timers

load_stays : (vs : List Value) (r : ObjRef) (s : State) → Stays s (load_rule vs r s)
load_stays [] r s = refl
load_stays (v ∷ x ∷ vs) r s = refl
load_stays (v ∷ []) r s = by (is_loadable v)
  where
    by : (t : Bool) → Stays s (if t then loaded_with v r s else s)
    by true = refl
    by false = refl

widget_stays : (n : ActionName) (vs : List Value) (r : ObjRef) (m : Option Object) (s : State) → Stays s (widget_at n vs r m s)
widget_stays n vs r None s = refl
widget_stays n vs r (Some o) s = refl

interact_stays : (n : ActionName) (vs : List Value) (rs : List ObjRef) (r : ObjRef) (s : State) → Stays s (interact_rule n vs rs r s)
interact_stays action.SetInteractionStatus vs rs r s = refl
interact_stays action.GetInteractionStatus vs rs r s = refl
interact_stays _ vs rs r s = refl

transition_stays : (n : ActionName) (r : ObjRef) (s : State) → Stays s (transition_rule n r s)
transition_stays n r s = by (is_begun s.transition) (leads_to_late n r s)
  where
    by : (b late : Bool) → Stays s (if b then s else begins_or_waits late n r s)
    by true late = refl
    by false true = refl
    by false false = refl

-- what holds of the timers holds of those that are left alone
left_in : (u : Sayings) (s t : State) → Stays s t → AreTimersIn u s.timers → AreTimersIn u t.timers
left_in u s t same h = subst (AreTimersIn u) (sym same) h

whole_in : (u : Sayings) (n : ActionName) (vs : List Value) (r : ObjRef) (s : State) → (n ≡ action.SetTimer → (id : ℤ) (x : Value) (more : List Value) → vs ≡ value.Int id ∷ x ∷ more → u (fired_by (r.group, id)) ≡ true) → AreTimersIn u s.timers → AreTimersIn u (whole_rule n vs r s).timers
whole_in u action.SetTimer vs r s may h = set_in u vs s.application r.group s.moments s.timers (may refl) h
whole_in u action.TransitionTo vs r s may h = left_in u s (transition_rule action.TransitionTo r s) (transition_stays action.TransitionTo r s) h
whole_in u action.Launch vs r s may h = left_in u s (transition_rule action.Launch r s) (transition_stays action.Launch r s) h
whole_in u action.Quit vs r s may h = left_in u s (transition_rule action.Quit r s) (transition_stays action.Quit r s) h
whole_in u action.LockScreen vs r s may h = h
whole_in u action.UnlockScreen vs r s may h = h
whole_in u _ vs r s may h = h

-- where it may set no timer but those of the set
sort_in : (u : Sayings) (o : Sort) (n : ActionName) (xs : List Argument) (r : ObjRef) (s : State) → (n ≡ action.SetTimer → (id : ℤ) (x : Value) (more : List Value) → values (all s.objects) xs ≡ value.Int id ∷ x ∷ more → u (fired_by (r.group, id)) ≡ true) → AreTimersIn u s.timers → AreTimersIn u (rule_by o n xs r s).timers
sort_in u sort.Change n xs r s may h = h
sort_in u sort.Ask n xs r s may h = h
sort_in u sort.Put n xs r s may h = h
sort_in u sort.Load n xs r s may h = left_in u s (load_rule (values (all s.objects) xs) r s) (load_stays (values (all s.objects) xs) r s) h
sort_in u sort.Call n xs r s may h = h
sort_in u sort.Order n xs r s may h = h
sort_in u sort.Widget n xs r s may h = left_in u s (widget_at n (values (all s.objects) xs) r (object_at r (all s.objects)) s) (widget_stays n (values (all s.objects) xs) r (object_at r (all s.objects)) s) h
sort_in u sort.Interact n xs r s may h = left_in u s (interact_rule n (values (all s.objects) xs) (receivers xs) r s) (interact_stays n (values (all s.objects) xs) (receivers xs) r s) h
sort_in u sort.Whole n xs r s may h = whole_in u n (values (all s.objects) xs) r s may h

act_in : {fw : Flow} {q : Doings} (u : Sayings) (s : State) (k : IsSafeBy fw s) → IsSaidClosed s.service fw q u → (a : Act) → IsFine s.service fw (config_of s) a → q (config_of s) a ≡ true → (rest : List Item) (n : ℕ) → AreTimersIn u s.timers → AreTimersIn u (rule (item.Act a) (record s { work = rest; taken = n })).timers
act_in {fw} u s k closed a fine may rest n h = by (referred a.target (all s.objects)) refl
  where
    by : (m : Option ObjRef) → referred a.target (all s.objects) ≡ m → AreTimersIn u (act_on m a.name a.arguments (record s { work = rest; taken = n })).timers
    by None e = h
    by (Some r) e =
        sort_in u (sort_of a.name) a.name a.arguments r (record s { work = rest; taken = n })
        (λ named id x more is. closed.timers (config_of s) k.among a fine.active may (r.group, id) (timer_set s k a r (sound_now s k a fine r e) named id x more is)) h

rule_in : {fw : Flow} {q : Doings} (u : Sayings) (s : State) (k : IsSafeBy fw s) → IsSaidClosed s.service fw q u → (i : Item) → IsSafeItem s.service fw (config_of s) i → IsSo q (config_of s) i → (rest : List Item) (n : ℕ) → AreTimersIn u s.timers → AreTimersIn u (rule i (record s { work = rest; taken = n })).timers
rule_in {fw} u s k closed (item.Act a) safe may rest n h = act_in u s k closed a safe may rest n h
rule_in {fw} u s k closed (item.Emit e) safe may rest n h = by (is_sync e.kind)
  where
    by : (t : Bool) → AreTimersIn u (if t then record s { work = heard e (all s.objects) ++ rest; taken = n } else record s { queue = s.queue ++ waiting.Event e ∷ []; work = rest; taken = n }).timers
    by true = h
    by false = h
rule_in {fw} u s k closed (item.Exchange g) safe may rest n h = by (is_group_of is_application s.service g)
  where
    by : (t : Bool) → AreTimersIn u (if t then application_exchanged g (record s { work = rest; taken = n }) else scene_exchanged g (record s { work = rest; taken = n })).timers
    by true = tt
    by false = timers_kept u (λ t. bytes_eq t.group s.application) s.timers h
rule_in {fw} u s k closed _ safe may rest n h = h

-- STEPS

key_stays : (x : Key) (m : Option Interaction) (s : State) → Stays s (key_taken x m s)
key_stays x None s = refl
key_stays x (Some i) s = by (object_at i.object (all s.objects))
  where
    by : (m : Option Object) → Stays s (pressed_at x i m s)
    by None = refl
    by (Some o) = refl

taking_in : (u : Sayings) (s : State) (x : Waiting) → AreTimersIn u s.timers → AreTimersIn u (taking x s).timers
taking_in u s (waiting.Event e) h = h
taking_in u s (waiting.Input (input.Key x)) h = left_in u s (key_taken x s.interaction s) (key_stays x s.interaction s) h
taking_in u s (waiting.Input (input.Tick n)) h = timers_kept u (λ t. not (is_due (s.moments.present + n) t)) s.timers h
taking_in u s (waiting.Input (input.Stream n)) h = h
taking_in u s (waiting.Input (input.Engine n)) h = h
taking_in u s (waiting.Input (input.Arrive f)) h = h
taking_in u s (waiting.Input (input.Scene g w)) h = by (awaits g s.transition)
  where
    by : (t : Bool) → AreTimersIn u (if t then begins action.TransitionTo (group_ref g) (scene_arrived g s) else scene_arrived g s).timers
    by true = h
    by false = h

pub step_times : {fw : Flow} {q : Doings} (u : Sayings) (s : State) (k : IsSafeBy fw s) → IsSaidClosed s.service fw q u → ((i : Item) → slice_get s.work 0 ≡ Some i → IsSo q (config_of s) i) → AreTimersIn u s.timers → AreTimersIn u (step s).timers
step_times {fw} u s k closed comes h = unless_ended s.ended
  where
    by : (m : Option Item) (x : Option Waiting) → slice_get s.work 0 ≡ m → AreTimersIn u (step_by m x s).timers
    by None None e = h
    by None (Some x) e = taking_in u (record s { queue = drop 1 s.queue; taken = s.taken + 1 }) x h
    by (Some i) x e =
        subst (λ (m : Option Fault). AreTimersIn u (did m i s).timers) (sym (free_first s k i e)) (rule_in u s k closed i (first_item s k i e) (comes i e) (drop 1 s.work) (s.taken + 1) h)

    unless_ended : (t : Bool) → AreTimersIn u (if t then s else step_by (slice_get s.work 0) (slice_get s.queue 0) s).timers
    unless_ended true = h
    unless_ended false = by (slice_get s.work 0) (slice_get s.queue 0) refl

pub posted_times : (u : Sayings) (s : State) (i : Input) → AreTimersIn u s.timers → AreTimersIn u (posted i s).timers
posted_times u s i h = by (obstacle i s)
  where
    by : (m : Option Obstacle) → AreTimersIn u (posted_by m i s).timers
    by None = h
    by (Some o) = h
