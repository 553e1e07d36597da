-- What is a matter of the whole machine keeps a state safe. Here `rest` is the work behind the action, and `n` the number of
-- steps.
use Rattle.std.specs.Prelude.{None, ◌≡◌, ℕ, ◌+◌, ◌-◌, ◌==◌, Bool, true, false, if◌then◌else◌, List, [], refl}
use Rattle.mh_base.specs.declared.obj_ref.ObjRef.{ObjRef}
use Rattle.mh_base.specs.declared.value.Value.{Value}
use Rattle.mh_group.specs.declared.action_name.ActionName.TheVariants as action
use Rattle.mh_group.specs.declared.action_name.ActionName.{ActionName}
use Rattle.mh_model.specs.declared.item.Item.TheVariants as item
use Rattle.mh_model.specs.declared.item.Item.{Item}
use Rattle.mh_model.specs.Configuration.{present}
use Rattle.mh_model.specs.Faults.{is_transition, admitted_wrongs}
use Rattle.mh_model.specs.Known.{known_before}
use Rattle.mh_model.specs.Picture.{looked}
use Rattle.mh_model.specs.declared.transition.Transition.TheVariants as transition
use Rattle.mh_model.specs.Late.{is_late_scene}
use Rattle.mh_model.specs.Rules.{begins, begins_or_waits, is_begun, whole_rule, way_out, quit_before}
use Rattle.mh_model.specs.State.{State}
use Rattle.mh_laws.specs.Active.{leads_to}
use Rattle.mh_laws.specs.Flow.{Flow, IsOpenIf}
use Rattle.mh_laws.specs.Safe.{config_of, IsSafeItem, IsSafeWork, IsSafeBy}
use Rattle.mh_model.proofs.ServiceLemmas.{present_whole}
use Rattle.mh_laws.proofs.StateLemmas.{fine_own, fine_scene, held_now, kept, kept_work, turned, unseen}
use Rattle.mh_laws.proofs.TimeLemmas.{set_timers_safe}
use Rattle.mh_laws.proofs.TransitionLemmas.{safe_transition, timer_there}
use Rattle.mh_laws.proofs.WorkLemmas.{safe_leaving, safe_quitting}

-- an action that is a matter of the whole machine

-- where it leads, nothing is absent
safe_goal : {fw : Flow} (s : State) (k : IsSafeBy fw s) (n : ActionName) (r : ObjRef) → is_transition n ≡ true → admitted_wrongs (known_before s.service (present s.service (config_of s))) n None r ≡ [] → IsOpenIf s.service fw (config_of s) (leads_to s.service (config_of s) n r) → IsSafeItem s.service fw (config_of s) (item.Exchange r.group)
safe_goal {fw} s k n r is free led = safe_transition s.service fw (config_of s) n r (present_whole s.service (config_of s) k.accepted.service) is free led

safe_out : {fw : Flow} (s : State) (k : IsSafeBy fw s) (r : ObjRef) (last : Item) → IsSafeItem s.service fw (config_of s) last → IsSafeWork s.service fw (config_of s) (quit_before last s)
safe_out {fw} s k r last is = safe_quitting s.service fw (config_of s) s.application s.scene last (fine_own s k) (fine_scene s k) is

-- a transition begins
pub safe_begins : {fw : Flow} (s : State) (k : IsSafeBy fw s) (m : ActionName) (r : ObjRef) (n : ℕ) → IsSafeWork s.service fw (config_of s) (way_out m r s) → IsSafeBy fw (record (begins m r s) { taken = n })
safe_begins {fw} s k m r n out = turned (record s { work = way_out m r s; taken = n }) (kept_work s k (way_out m r s) n out) transition.Begun s.late tt

pub safe_whole : {fw : Flow} (s : State) (k : IsSafeBy fw s) (name : ActionName) (vs : List Value) (r : ObjRef) (rest : List Item) (n : ℕ) → admitted_wrongs (known_before s.service (present s.service (config_of s))) name None r ≡ [] → IsOpenIf s.service fw (config_of s) (leads_to s.service (config_of s) name r) → IsSafeWork s.service fw (config_of s) rest → IsSafeBy fw (whole_rule name vs r (record s { work = rest; taken = n }))
safe_whole {fw} s k action.TransitionTo vs r rest n free led behind_it = by (is_begun s.transition) (is_late_scene r.group s.late)
  where
    goal : IsSafeItem s.service fw (config_of s) (item.Exchange r.group)
    goal = safe_goal s k action.TransitionTo r refl free led

    by : (b late : Bool) → IsSafeBy fw (if b then record s { work = rest; taken = n } else begins_or_waits late action.TransitionTo r (record s { work = rest; taken = n }))
    by true late = kept_work s k rest n behind_it
    by false true = turned (record s { work = rest; taken = n }) (kept_work s k rest n behind_it) (transition.Awaits r.group) s.late goal
    by false false = safe_begins s k action.TransitionTo r n (safe_leaving s.service fw (config_of s) s.application s.scene r.group (fine_scene s k) goal)
safe_whole {fw} s k action.Launch vs r rest n free led behind_it = by (is_begun s.transition)
  where
    by : (b : Bool) → IsSafeBy fw (if b then record s { work = rest; taken = n } else begins action.Launch r (record s { work = rest; taken = n }))
    by true = kept_work s k rest n behind_it
    by false = safe_begins s k action.Launch r n (safe_out s k r (item.Exchange r.group) (safe_goal s k action.Launch r refl free led))
safe_whole {fw} s k action.Quit vs r rest n free led behind_it = by (is_begun s.transition)
  where
    by : (b : Bool) → IsSafeBy fw (if b then record s { work = rest; taken = n } else begins action.Quit r (record s { work = rest; taken = n }))
    by true = kept_work s k rest n behind_it
    by false = safe_begins s k action.Quit r n (safe_out s k r item.End tt)
safe_whole {fw} s k action.LockScreen vs r rest n free led behind_it =
    unseen (record s { work = rest; taken = n }) (kept_work s k rest n behind_it) s.moments s.ended (s.locks + 1) (if s.locks == 0 then looked (record s { work = rest; taken = n }) else s.frozen)
safe_whole {fw} s k action.UnlockScreen vs r rest n free led behind_it =
    unseen (record s { work = rest; taken = n }) (kept_work s k rest n behind_it) s.moments s.ended (s.locks - 1) s.frozen
safe_whole {fw} s k action.SetTimer vs r rest n free led behind_it =
    let there = timer_there (present s.service (config_of s)) r (present_whole s.service (config_of s) k.accepted.service) free in
    kept s k s.objects s.stack _ s.queue rest n refl refl (held_now s k) behind_it (set_timers_safe (present s.service (config_of s)) vs s.application r.group s.moments s.timers there k.timers) k.queue
safe_whole {fw} s k _ vs r rest n free led behind_it = kept_work s k rest n behind_it
