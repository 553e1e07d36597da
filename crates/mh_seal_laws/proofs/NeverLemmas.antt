-- In a run of an accepted service nothing brings what is late.
use Rattle.std.specs.List.{list_all}
use Rattle.std.specs.Option.{option_map_or}
use Rattle.std.specs.Prelude.{◌≡◌, ◌+◌, ◌∷◌, ◌||◌, ◌==◌, Bool, List, None, Option, Some, [], drop, false, if◌then◌else◌, not, slice_get, true, ℕ}
use Rattle.std.specs.Str.{bytes_eq}
use Rattle.std.proofs.Common.{ap, refl, subst, sym, inl, inr, ◌∙◌}
use Rattle.mh_base.specs.declared.obj_ref.ObjRef.{ObjRef}
use Rattle.mh_group.specs.Table.{admits, is_application, is_scene}
use Rattle.mh_group.specs.declared.action_name.ActionName.{ActionName}
use Rattle.mh_group.specs.declared.action_name.ActionName.TheVariants as action
use Rattle.mh_model.specs.declared.fault.Fault.{Fault}
use Rattle.mh_model.specs.declared.input.Input.{Input}
use Rattle.mh_model.specs.declared.input.Input.TheVariants as input
use Rattle.mh_model.specs.declared.input.Move.{Move}
use Rattle.mh_model.specs.declared.input.Move.TheVariants as move
use Rattle.mh_model.specs.declared.input.Obstacle.{Obstacle}
use Rattle.mh_model.specs.declared.input.Waiting.{Waiting}
use Rattle.mh_model.specs.declared.input.Waiting.TheVariants as waiting
use Rattle.mh_model.specs.declared.item.Item.{Item}
use Rattle.mh_model.specs.declared.item.Item.TheVariants as item
use Rattle.mh_model.specs.Arguments.{referred}
use Rattle.mh_model.specs.Configuration.{is_group_of, present}
use Rattle.mh_model.specs.Faults.{admitted_wrongs}
use Rattle.mh_model.specs.Known.{known_before}
use Rattle.mh_model.specs.Late.{is_late_scene, late_without}
use Rattle.mh_model.specs.Limits.{most_steps}
use Rattle.mh_model.specs.Reference.{group_ref}
use Rattle.mh_model.specs.Rules.{begins}
use Rattle.mh_model.specs.Service.{Service, group_parts, with_parts}
use Rattle.mh_model.specs.State.{State, all}
use Rattle.mh_model.specs.Step.{awaits, did, engine_event, key_taken, moved, obstacle, posted, posted_by, scene_arrived, step, step_by, stepped, taking}
use Rattle.mh_model.specs.Stuck.{stuck}
use Rattle.mh_model.proofs.ListLemmas.{and_left, and_right}
use Rattle.mh_model.proofs.ServiceLemmas.{present_whole}
use Rattle.mh_laws.specs.Headline.{begun_with}
use Rattle.mh_laws.specs.Safe.{IsSafe, IsSafeBy, config_of}
use Rattle.mh_laws.proofs.ActLemmas.{sound}
use Rattle.mh_laws.proofs.ReadyLemmas.{first_item}
use Rattle.mh_laws.proofs.SafeLemmas.{safe_begun_with, safe_moved}
use Rattle.mh_seal_laws.proofs.Whole.{AreHere, is_here}
use Rattle.mh_seal_laws.specs.Bringing.{AreScenes, BringsHere, EachBringsHere, NeverBringsLate}
use Rattle.mh_seal_laws.proofs.ItemLemmas.{and_both, heard_here, key_here, leaving_here}
use Rattle.mh_seal_laws.proofs.BringLemmas.{LaunchesHere, apart_classes, launch_fit, launched_class, never_both, not_late, not_true, rule_here}
use Rattle.mh_seal_laws.proofs.LeaveLemmas.{did_leaves, key_leaves, step_passes}

record Keeps (s : State) : Type 0 where
  safe : IsSafe s
  scenes : AreScenes s.service s.late
  here : AreHere s.late s.work

front_here : (gs : List (List ℕ)) (is : List Item) (i : Item) → slice_get is 0 ≡ Some i → AreHere gs is → (is_here gs i ≡ true) × AreHere gs (drop 1 is)
front_here gs [] i e h = absurd cc
front_here gs (x ∷ xs) i e h = (ap (λ (m : Option Item). option_map_or (is_here gs) m true) (sym e) ∙ and_left (is_here gs x) (list_all (is_here gs) xs) h, and_right (is_here gs x) (list_all (is_here gs) xs) h)

empty_here : (gs : List (List ℕ)) (is : List Item) → slice_get is 0 ≡ None → AreHere gs is
empty_here gs [] e = refl
empty_here gs (x ∷ xs) e = absurd cc

gone : (g : List ℕ) (gs : List (List ℕ)) → is_late_scene g (late_without g gs) ≡ false
gone g [] = refl
gone g (x ∷ gs) = by (bytes_eq g x) refl (gone g gs)
  where
    by : (b : Bool) → bytes_eq g x ≡ b → is_late_scene g (late_without g gs) ≡ false → is_late_scene g (if not b then x ∷ late_without g gs else late_without g gs) ≡ false
    by true e more = more
    by false e more = ap (λ (b : Bool). b || is_late_scene g (late_without g gs)) e ∙ more

launches : (s : State) → Keeps s → (n : ℕ) (i : Item) → slice_get s.work 0 ≡ Some i → LaunchesHere (record s { work = drop 1 s.work; taken = n }) i
launches s k n (item.Act a) e = launch
  where
    v : Service
    v = s.service

    launch : (r : ObjRef) → referred a.target (all s.objects) ≡ Some r → a.name ≡ action.Launch → is_late_scene r.group s.late ≡ false
    launch r to named =
        let by : IsSafeBy (k.safe).flow s = (k.safe).by in
        let so = sound s by a r (first_item s by (item.Act a) e) to in
        let fit = subst (λ (m : ActionName). admitted_wrongs (known_before v (present v (config_of s))) m None r ≡ []) named so.fit in
        not_late v s.late r.group k.scenes (never_both v r.group (λ c. admits c action.Launch) launched_class (launch_fit v (config_of s) r (present_whole v (config_of s) (by.accepted).service) fit))
launches s k n _ e = tt

at_late : (gs hs : List (List ℕ)) (is : List Item) → hs ≡ gs → AreHere gs is → AreHere hs is
at_late gs hs is e h = subst (λ (z : List (List ℕ)). AreHere z is) (sym e) h

did_here : (s : State) → Keeps s → (i : Item) → slice_get s.work 0 ≡ Some i → (m : Option Fault) → AreHere (did m i s).late (did m i s).work
did_here s k i e None =
    let front = front_here s.late s.work i e k.here in
    at_late s.late (did None i s).late (did None i s).work (did_leaves None i s).1 (rule_here i (record s { work = drop 1 s.work; taken = s.taken + 1 }) (launches s k (s.taken + 1) i e) front.0 front.1)
did_here s k i e (Some f) = (front_here s.late s.work i e k.here).1

took_here : (x : Waiting) (s : State) → slice_get s.work 0 ≡ None → AreHere (taking x s).late (taking x s).work
took_here (waiting.Event e) s none = heard_here s.late e (all s.objects)
took_here (waiting.Input (input.Key x)) s none = at_late s.late (key_taken x s.interaction s).late (key_taken x s.interaction s).work (key_leaves x s.interaction s).1 (key_here s.late x s.interaction s (empty_here s.late s.work none))
took_here (waiting.Input (input.Tick n)) s none = empty_here s.late s.work none
took_here (waiting.Input (input.Stream n)) s none = empty_here s.late s.work none
took_here (waiting.Input (input.Engine n)) s none = heard_here s.late (engine_event n s.application) (all s.objects)
took_here (waiting.Input (input.Arrive f)) s none = empty_here s.late s.work none
took_here (waiting.Input (input.Scene g x)) s none = by (awaits g s.transition)
  where
    by : (b : Bool) → AreHere (if b then begins action.TransitionTo (group_ref g) (scene_arrived g s) else scene_arrived g s).late (if b then begins action.TransitionTo (group_ref g) (scene_arrived g s) else scene_arrived g s).work
    by true = leaving_here (late_without g s.late) (group_parts s.service s.application) (with_parts s.service s.scene) g (gone g s.late)
    by false = empty_here (late_without g s.late) s.work none

step_here : (s : State) → Keeps s → AreHere (step s).late (step s).work
step_here s k = unless_ended s.ended
  where
    by : (m : Option Item) (x : Option Waiting) → slice_get s.work 0 ≡ m → AreHere (step_by m x s).late (step_by m x s).work
    by None None e = k.here
    by None (Some x) e = took_here x (record s { queue = drop 1 s.queue; taken = s.taken + 1 }) e
    by (Some i) x e = did_here s k i e (stuck i s)

    unless_ended : (t : Bool) → AreHere (if t then s else step_by (slice_get s.work 0) (slice_get s.queue 0) s).late (if t then s else step_by (slice_get s.work 0) (slice_get s.queue 0) s).work
    unless_ended true = k.here
    unless_ended false = by (slice_get s.work 0) (slice_get s.queue 0) refl

-- what a move keeps, besides safety

record Rest (s t : State) : Type 0 where
  scenes : AreScenes t.service t.late
  here : AreHere t.late t.work

rest_stepped : (s : State) → Keeps s → Rest s (stepped s)
rest_stepped s k = by (s.taken == most_steps)
  where
    by : (b : Bool) → Rest s (if b then s else step s)
    by true = record { scenes = k.scenes; here = k.here }
    by false =
        let passes = step_passes s in
        record { scenes = λ g h. subst (λ (u : Service). is_group_of is_scene u g ≡ true) (sym passes.service) (k.scenes g (passes.fewer g h)); here = step_here s k }

rest_posted : (s : State) → Keeps s → (i : Input) → Rest s (posted i s)
rest_posted s k i = by (obstacle i s)
  where
    by : (m : Option Obstacle) → Rest s (posted_by m i s)
    by None = record { scenes = k.scenes; here = k.here }
    by (Some o) = record { scenes = k.scenes; here = k.here }

rest_moved : (s : State) → Keeps s → (m : Move) → Rest s (moved m s)
rest_moved s k (move.Post i) = rest_posted s k i
rest_moved s k move.Step = rest_stepped s k

keeps_moved : (s : State) → Keeps s → (m : Move) → Keeps (moved m s)
keeps_moved s k m = let rest = rest_moved s k m in record { safe = safe_moved s k.safe m; scenes = rest.scenes; here = rest.here }

brings_here : (s : State) → Keeps s → BringsHere s
brings_here s k g (inl e) = not_true (is_late_scene g s.late) (front_here s.late s.work (item.Enter g) e k.here).0
brings_here s k g (inr e) = not_true (is_late_scene g s.late) (front_here s.late s.work (item.Exchange g) e k.here).0

each_here : (ms : List Move) (s : State) → Keeps s → EachBringsHere ms s
each_here [] s k = brings_here s k
each_here (m ∷ ms) s k = (brings_here s k, each_here ms (moved m s) (keeps_moved s k m))

pub never_late : NeverBringsLate
never_late v good scenes mjd fs ms = each_here ms (begun_with v mjd fs) keeps
  where
    safe : IsSafe (begun_with v mjd fs)
    safe = safe_begun_with v good mjd fs

    keeps : Keeps (begun_with v mjd fs)
    keeps = record {
      safe = safe;
      scenes = scenes;
      here = and_both (not (is_late_scene v.start v.late)) true (ap not (not_late v v.late v.start scenes (never_both v v.start is_application apart_classes (safe.by).application))) refl;
    }
