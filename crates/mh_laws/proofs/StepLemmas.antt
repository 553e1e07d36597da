-- A state that is safe by a flow stays so, and nothing is stuck in it.
use Rattle.std.specs.Prelude.{◌≡◌, ℕ, ◌+◌, Bool, true, false, if◌then◌else◌, List, [], ◌∷◌, ◌++◌, drop, slice_get, Option, Some, None, refl}
use Rattle.std.specs.Option.{option_map_or}
use Rattle.std.proofs.Common.{inl, ap, ◌∙◌, sym, subst}
use Rattle.mh_base.specs.declared.obj_ref.ObjRef.{ObjRef}
use Rattle.mh_group.specs.declared.action_name.ActionName.TheVariants as action
use Rattle.mh_group.specs.declared.action_name.ActionName.{ActionName}
use Rattle.mh_group.specs.Table.{is_visible}
use Rattle.mh_model.specs.declared.config.Config.{Config}
use Rattle.mh_model.specs.declared.fault.Fault.{Fault}
use Rattle.mh_model.specs.declared.file.File.{File}
use Rattle.mh_model.specs.declared.input.Input.{Input}
use Rattle.mh_model.specs.declared.input.Obstacle.{Obstacle}
use Rattle.mh_model.specs.declared.input.Waiting.TheVariants as waiting
use Rattle.mh_model.specs.declared.input.Waiting.{Waiting}
use Rattle.mh_model.specs.declared.item.Item.TheVariants as item
use Rattle.mh_model.specs.declared.item.Item.{Item}
use Rattle.mh_model.specs.declared.object.Fixed.{Fixed}
use Rattle.mh_model.specs.declared.program.Outcome.{Outcome}
use Rattle.mh_model.specs.Configuration.{present, starting}
use Rattle.mh_model.specs.Faults.{Wrong, fault_by, least, machine_rank, object_wrongs, fault_known}
use Rattle.mh_model.specs.Files.{with_file}
use Rattle.mh_model.specs.Known.{class_at}
use Rattle.mh_model.specs.Receiver.{told}
use Rattle.mh_model.specs.Service.{fresh, Service, group_parts}
use Rattle.mh_model.specs.State.{State, all, begun}
use Rattle.mh_model.specs.Step.{done, did, step_by, step, posted, obstacle, posted_by, preset}
use Rattle.mh_model.specs.Stuck.{member_fault, stuck, fault_at, front_fault}
use Rattle.mh_laws.specs.Acceptable.{IsAcceptableBy}
use Rattle.mh_laws.specs.Flow.{IsHeld, Flow}
use Rattle.mh_laws.specs.Headline.{begun_with}
use Rattle.mh_laws.specs.Safe.{config_of, behind, has_origin, IsSafeItem, IsSafeWork, IsSafeBy}
use Rattle.mh_model.proofs.ListLemmas.{all_joined}
use Rattle.mh_model.proofs.PartLemmas.{parts-fresh}
use Rattle.mh_model.proofs.ServiceLemmas.{of_service}
use Rattle.mh_laws.proofs.ActLemmas.{refers_now, number_now, none_wrong}
use Rattle.mh_laws.proofs.EachLemmas.{each_left}
use Rattle.mh_laws.proofs.FaultLemmas.{knowing}
use Rattle.mh_laws.proofs.HeldLemmas.{held_fresh}
use Rattle.mh_laws.proofs.RuleLemmas.{safe_rule}
use Rattle.mh_laws.proofs.StateLemmas.{held_now, parts_present, kept, unwaited}
use Rattle.mh_laws.proofs.TakenLemmas.{first_waits, safe_took}

-- the beginning

pub safe_by_begun : {fw : Flow} (v : Service) → IsAcceptableBy v fw → (mjd : ℕ) → IsSafeBy fw (begun v mjd)
safe_by_begun {fw} v k mjd = record {
  accepted = k;
  application = (of_service v k.service).start;
  scene = refl;
  among = k.solution.start;
  own = parts-fresh (group_parts v v.start);
  others = refl;
  own_held = held_fresh (fw.sets (starting v)) (group_parts v v.start) (each_left (λ p. IsHeld (fw.sets (starting v)) (fresh p)) (group_parts v v.start) [] (k.solution.original (starting v) k.solution.start));
  others_held = tt;
  work = (inl refl, tt);
  transition = tt;
  timers = refl;
  queue = refl;
  faultless = refl;
}

-- a file that is put there beforehand
pub safe_by_preset : {fw : Flow} (f : File) (s : State) → IsSafeBy fw s → IsSafeBy fw (preset f s)
safe_by_preset {fw} f s k = unwaited s k (with_file f s.files) s.waits

-- the beginning with files there
pub safe_by_begun_with : {fw : Flow} (v : Service) → IsAcceptableBy v fw → (mjd : ℕ) (fs : List File) → IsSafeBy fw (begun_with v mjd fs)
safe_by_begun_with {fw} v k mjd fs = unwaited (begun v mjd) (safe_by_begun v k mjd) fs []

-- Steps

-- a member that is present and a visible
free_member : {fw : Flow} (s : State) (k : IsSafeBy fw s) (n : ActionName) (r : ObjRef) → object_wrongs is_visible None r (class_at r (present s.service (config_of s))) ≡ [] → member_fault n r (all s.objects) ≡ None
free_member {fw} s k n r h =
    ap (λ (ps : List Fixed). fault_by n (slice_get (object_wrongs is_visible None r (class_at r ps)) 0)) (parts_present s k)
    ∙ ap (λ (ws : List Wrong). fault_by n (slice_get ws 0)) h

-- an item that is safe in the configuration of a safe state is not stuck
safe_item_free : {fw : Flow} (s : State) (k : IsSafeBy fw s) (i : Item) → IsSafeItem s.service fw (config_of s) i → stuck i s ≡ None
safe_item_free {fw} s k (item.Act a) h =
    ap (λ (ps : List Fixed). fault_known (knowing s.service ps (λ v. refers_now s v) (λ v. number_now s v)) a) (parts_present s k)
    ∙ ap (λ (ws : List Wrong). fault_by a.name (least machine_rank None ws)) (none_wrong s k a h)
safe_item_free {fw} s k (item.Prepare r) h = refl
safe_item_free {fw} s k (item.RunMember r) h = free_member s k action.Run r h
safe_item_free {fw} s k (item.HaltMember r) h = free_member s k action.Stop r h
safe_item_free {fw} s k (item.Drop r) h = refl
safe_item_free {fw} s k (item.Run r) h = refl
safe_item_free {fw} s k (item.Halt r) h = refl
safe_item_free {fw} s k (item.Emit e) h = refl
safe_item_free {fw} s k (item.Enter g) h = refl
safe_item_free {fw} s k (item.Exchange g) h = refl
safe_item_free {fw} s k item.End h = refl

-- the first item and what is behind it
pub first_safe : (v : Service) (fw : Flow) (c : Config) (work : List Item) (i : Item) → slice_get work 0 ≡ Some i → IsSafeWork v fw c work → IsSafeItem v fw c i × IsSafeWork v fw (behind v c i) (drop 1 work)
first_safe v fw c [] i e k = absurd cc
first_safe v fw c (j ∷ rest) i e k = subst (λ (x : Item). IsSafeItem v fw c x × IsSafeWork v fw (behind v c x) rest) (ap (λ (m : Option Item). option_map_or (λ (x : Item). x) m j) e) k

-- in a safe state the first item is not stuck
pub safe_by_front : {fw : Flow} (s : State) → IsSafeBy fw s → front_fault s ≡ None
safe_by_front {fw} s k = by (slice_get s.work 0) refl
  where
    by : (m : Option Item) → slice_get s.work 0 ≡ m → fault_at m s ≡ None
    by None e = refl
    by (Some i) e = safe_item_free s k i (first_safe s.service fw (config_of s) s.work i e k.work).0

safe_by_done : {fw : Flow} (s : State) → IsSafeBy fw s → (i : Item) → slice_get s.work 0 ≡ Some i → IsSafeBy fw (done i s)
safe_by_done {fw} s k i e =
    let parts = first_safe s.service fw (config_of s) s.work i e k.work in
    safe_rule s k i (drop 1 s.work) (s.taken + 1) parts.0 parts.1

pub safe_by_step : {fw : Flow} (s : State) → IsSafeBy fw s → IsSafeBy fw (step s)
safe_by_step {fw} s k = unless_ended s.ended
  where
    by : (m : Option Item) (next : Option Waiting) → slice_get s.work 0 ≡ m → slice_get s.queue 0 ≡ next → IsSafeBy fw (step_by m next s)
    by None None e f = k
    by None (Some w) e f =
        let first = first_waits (present s.service (config_of s)) s.queue w f k.queue in
        safe_took s k w first.0 first.1
    by (Some i) next e f =
        let free : stuck i s ≡ None = safe_item_free s k i (first_safe s.service fw (config_of s) s.work i e k.work).0 in
        subst (λ (x : Option Fault). IsSafeBy fw (did x i s)) (sym free) (safe_by_done s k i e)

    unless_ended : (b : Bool) → IsSafeBy fw (if b then s else step_by (slice_get s.work 0) (slice_get s.queue 0) s)
    unless_ended true = k
    unless_ended false = by (slice_get s.work 0) (slice_get s.queue 0) refl refl

pub safe_by_posted : {fw : Flow} (s : State) → IsSafeBy fw s → (i : Input) → IsSafeBy fw (posted i s)
safe_by_posted {fw} s k i = by (obstacle i s)
  where
    by : (m : Option Obstacle) → IsSafeBy fw (posted_by m i s)
    by None =
        kept s k s.objects s.stack s.timers (s.queue ++ waiting.Input i ∷ []) s.work s.taken refl refl (held_now s k) k.work k.timers
        (all_joined (has_origin (present s.service (config_of s))) s.queue (waiting.Input i ∷ []) k.queue refl)
    by (Some o) = k

pub safe_by_told : {fw : Flow} (s : State) → IsSafeBy fw s → (o : Outcome) → IsSafeBy fw (told o s)
safe_by_told {fw} s k o = record {
  accepted = k.accepted;
  application = k.application;
  scene = k.scene;
  among = k.among;
  own = k.own;
  others = k.others;
  own_held = k.own_held;
  others_held = k.others_held;
  work = k.work;
  transition = k.transition;
  timers = k.timers;
  queue = k.queue;
  faultless = k.faultless;
}
