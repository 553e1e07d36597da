-- What a safe state knows of its objects, and what may change while it stays safe.
use Rattle.std.specs.Prelude.{◌∷◌, [], ◌≡◌, ℕ, Bool, true, List, ◌++◌, Option, Some, None, refl}
use Rattle.std.specs.List.{list_all}
use Rattle.std.proofs.Common.{inl, inr, ap, ◌∙◌, sym, subst}
use Rattle.mh_base.specs.declared.obj_ref.ObjRef.{ObjRef}
use Rattle.mh_group.specs.Table.{is_scene, is_application}
use Rattle.mh_model.specs.declared.act.Act.{Act}
use Rattle.mh_model.specs.declared.config.Config.{Config}
use Rattle.mh_model.specs.declared.file.File.{File}
use Rattle.mh_model.specs.declared.file.Wait.{Wait}
use Rattle.mh_model.specs.declared.input.Waiting.{Waiting}
use Rattle.mh_model.specs.declared.interaction.Interaction.{Interaction}
use Rattle.mh_model.specs.declared.item.Item.{Item}
use Rattle.mh_model.specs.declared.object.Fixed.{Fixed}
use Rattle.mh_model.specs.declared.time.Moments.{Moments}
use Rattle.mh_model.specs.declared.time.Timer.{Timer}
use Rattle.mh_model.specs.declared.transition.Transition.{Transition}
use Rattle.mh_model.specs.Configuration.{is_group_of, scene_parts, present}
use Rattle.mh_model.specs.Planes.{Planes}
use Rattle.mh_model.specs.Reference.{group_ref}
use Rattle.mh_model.specs.Service.{Service, parts, group_parts, is_there}
use Rattle.mh_model.specs.State.{State, Objects, all}
use Rattle.mh_laws.specs.Acceptable.{is_right, IsAcceptableBy}
use Rattle.mh_laws.specs.Active.{active_actions}
use Rattle.mh_laws.specs.Each.{Among, Each}
use Rattle.mh_laws.specs.Flow.{reached, Flow, Keeps, IsLed}
use Rattle.mh_laws.specs.Safe.{config_of, IsPartOf, is_scene_if_any, has_origin, has_group, IsFine, IsSafeTransition, IsSafeWork, IsSafeBy}
use Rattle.mh_model.proofs.ListLemmas.{and_left, and_right}
use Rattle.mh_model.proofs.PartLemmas.{parts-all}
use Rattle.mh_model.proofs.ServiceLemmas.{is_there_left, is_there_right, group_is_there, group_parts_whole}
use Rattle.mh_laws.proofs.HeldLemmas.{AreHeld}
use Rattle.mh_laws.proofs.WorkLemmas.{AreFine, IsFineGroup, IsFineScene, fine_left, fine_right}

-- they are what is present in its configuration
pub parts_present : {fw : Flow} (s : State) → IsSafeBy fw s → parts (all s.objects) ≡ present s.service (config_of s)
parts_present {fw} s k =
    parts-all s.objects
    ∙ ap (λ (t : List Fixed). t ++ parts s.objects.scene) k.own
    ∙ ap (λ (t : List Fixed). group_parts s.service s.application ++ t) k.others

-- all actions that can come to be done in a configuration that is reached are fine
fine_present : {fw : Flow} (v : Service) (k : IsAcceptableBy v fw) (c : Config) → reached fw c ≡ true → Each (IsFine v fw c) (active_actions (present v c))
fine_present {fw} v k c h =
    each_fine (active_actions (present v c)) (λ a there. there) (k.free c h) (k.solution.keeps c h) (k.solution.leads c h)
  where
    each_fine : (as_written : List Act) → ((a : Act) → Among as_written a → Among (active_actions (present v c)) a) → list_all (is_right v (fw.sets c) (present v c)) as_written ≡ true → Each (Keeps (fw.sets c) (present v c)) as_written → Each (IsLed v fw c) as_written → Each (IsFine v fw c) as_written
    each_fine [] into right keeps led = tt
    each_fine (a ∷ more) into right keeps led = (
      record { active = into a (inl refl); right = and_left (is_right v (fw.sets c) (present v c) a) (list_all (is_right v (fw.sets c) (present v c)) more) right; keeps = keeps.0; led = led.0 },
      each_fine more (λ x there. into x (inr there)) (and_right (is_right v (fw.sets c) (present v c) a) (list_all (is_right v (fw.sets c) (present v c)) more) right) keeps.1 led.1,
    )

pub fine_now : {fw : Flow} (s : State) (k : IsSafeBy fw s) → AreFine (IsFine s.service fw (config_of s)) (present s.service (config_of s)) (present s.service (config_of s))
fine_now {fw} s k = fine_present s.service k.accepted (config_of s) k.among

pub fine_objects : {fw : Flow} (s : State) (k : IsSafeBy fw s) → AreFine (IsFine s.service fw (config_of s)) (present s.service (config_of s)) (parts (all s.objects))
fine_objects {fw} s k = subst (AreFine (IsFine s.service fw (config_of s)) (present s.service (config_of s))) (sym (parts_present s k)) (fine_now s k)

-- a group that is there can be entered and left

pub fine_own : {fw : Flow} (s : State) (k : IsSafeBy fw s) → IsFineGroup s.service fw (config_of s) s.application
fine_own {fw} s k = record {
  all = present s.service (config_of s);
  whole = group_parts_whole s.service s.application k.accepted.service;
  fine = fine_left (IsFine s.service fw (config_of s)) (present s.service (config_of s)) (group_parts s.service s.application) (scene_parts s.service s.scene) (fine_now s k);
}

pub fine_scene : {fw : Flow} (s : State) (k : IsSafeBy fw s) → IsFineScene s.service fw (config_of s) s.scene
fine_scene {fw} s k = by s.scene (fine_right (IsFine s.service fw (config_of s)) (present s.service (config_of s)) (group_parts s.service s.application) (scene_parts s.service s.scene) (fine_now s k))
  where
    by : (m : Option (List ℕ)) → AreFine (IsFine s.service fw (config_of s)) (present s.service (config_of s)) (scene_parts s.service m) → IsFineScene s.service fw (config_of s) m
    by None h = tt
    by (Some g) h = record { all = present s.service (config_of s); whole = group_parts_whole s.service g k.accepted.service; fine = h }

-- a group of the configuration is there
pub group_there : {fw : Flow} (s : State) (k : IsSafeBy fw s) (g : List ℕ) → IsPartOf (config_of s) g → is_there (group_ref g) (present s.service (config_of s)) ≡ true
group_there {fw} s k g (inl same) =
    is_there_left (group_ref g) (group_parts s.service s.application) (scene_parts s.service s.scene)
    (subst (λ (n : List ℕ). is_there (group_ref g) (group_parts s.service n) ≡ true) same (group_is_there is_application s.service g (subst (λ (n : List ℕ). is_group_of is_application s.service n ≡ true) (sym same) k.application)))
group_there {fw} s k g (inr same) =
    let is : is_group_of is_scene s.service g ≡ true = subst (λ (m : Option (List ℕ)). is_scene_if_any s.service m ≡ true) same k.scene in
    let itself = is_there_right (group_ref g) (group_parts s.service s.application) (group_parts s.service g) (group_is_there is_scene s.service g is) in
    subst (λ (m : Option (List ℕ)). is_there (group_ref g) (group_parts s.service s.application ++ scene_parts s.service m) ≡ true) (sym same) itself

pub fine_group : {fw : Flow} (s : State) (k : IsSafeBy fw s) (g : List ℕ) → IsPartOf (config_of s) g → IsFineGroup s.service fw (config_of s) g
fine_group {fw} s k g (inl same) = subst (IsFineGroup s.service fw (config_of s)) (sym same) (fine_own s k)
fine_group {fw} s k g (inr same) = subst (IsFineScene s.service fw (config_of s)) same (fine_scene s k)

pub there : {fw : Flow} (s : State) → IsSafeBy fw s → (r : ObjRef) → is_there r (parts (all s.objects)) ≡ true → is_there r (present s.service (config_of s)) ≡ true
there {fw} s k r h = subst (λ (ps : List Fixed). is_there r ps ≡ true) (parts_present s k) h

-- What may change.

-- what these objects hold is in the sets of the state's configuration
abbrev Holds : {fw : Flow} (s : State) → IsSafeBy fw s → Objects → Type 0
Holds {fw} s k os = AreHeld (fw.sets (config_of s)) os

pub held_now : {fw : Flow} (s : State) (k : IsSafeBy fw s) → Holds s k s.objects
held_now {fw} s k = (k.own_held, k.others_held)

-- a state stays safe where its work is safe, its timers and what waits are of what is present, and of its objects
-- only bodies change
pub kept : {fw : Flow} (s : State) (k : IsSafeBy fw s) (os : Objects) (stack : List ObjRef) (timers : List Timer) (queue : List Waiting) (work : List Item) (n : ℕ) → parts os.application ≡ parts s.objects.application → parts os.scene ≡ parts s.objects.scene → Holds s k os → IsSafeWork s.service fw (config_of s) work → list_all (has_group (present s.service (config_of s))) timers ≡ true → list_all (has_origin (present s.service (config_of s))) queue ≡ true → IsSafeBy fw (record s { objects = os; stack = stack; timers = timers; queue = queue; work = work; taken = n })
kept {fw} s k os stack timers queue work n own others holds safe of_present from_present = record {
  accepted = k.accepted;
  application = k.application;
  scene = k.scene;
  among = k.among;
  own = own ∙ k.own;
  others = others ∙ k.others;
  own_held = holds.0;
  others_held = holds.1;
  work = safe;
  transition = k.transition;
  timers = of_present;
  queue = from_present;
  faultless = k.faultless;
}

-- a state stays safe where only its work changes
pub kept_work : {fw : Flow} (s : State) (k : IsSafeBy fw s) (work : List Item) (n : ℕ) → IsSafeWork s.service fw (config_of s) work → IsSafeBy fw (record s { work = work; taken = n })
kept_work {fw} s k work n safe = kept s k s.objects s.stack s.timers s.queue work n refl refl (held_now s k) safe k.timers k.queue

-- where only objects and work do
pub kept_bodies : {fw : Flow} (s : State) (k : IsSafeBy fw s) (os : Objects) (stack : List ObjRef) (work : List Item) (n : ℕ) → parts os.application ≡ parts s.objects.application → parts os.scene ≡ parts s.objects.scene → Holds s k os → IsSafeWork s.service fw (config_of s) work → IsSafeBy fw (record s { objects = os; stack = stack; work = work; taken = n })
kept_bodies {fw} s k os stack work n own others holds safe = kept s k os stack s.timers s.queue work n own others holds safe k.timers k.queue

-- the moments, the lock, the picture that it keeps, and the end are no matter
pub unseen : {fw : Flow} (s : State) → IsSafeBy fw s → (m : Moments) (ended : Bool) (locks : ℕ) (p : Planes) → IsSafeBy fw (record s { moments = m; ended = ended; locks = locks; frozen = p })
unseen {fw} s k m ended locks p = record {
  accepted = k.accepted;
  application = k.application;
  scene = k.scene;
  among = k.among;
  own = k.own;
  others = k.others;
  own_held = k.own_held;
  others_held = k.others_held;
  work = k.work;
  transition = k.transition;
  timers = k.timers;
  queue = k.queue;
  faultless = k.faultless;
}

-- nor is who interacts
pub unasked : {fw : Flow} (s : State) → IsSafeBy fw s → (i : Option Interaction) → IsSafeBy fw (record s { interaction = i })
unasked {fw} s k i = record {
  accepted = k.accepted;
  application = k.application;
  scene = k.scene;
  among = k.among;
  own = k.own;
  others = k.others;
  own_held = k.own_held;
  others_held = k.others_held;
  work = k.work;
  transition = k.transition;
  timers = k.timers;
  queue = k.queue;
  faultless = k.faultless;
}

-- nor are the files that are there, and who waits for one
pub unwaited : {fw : Flow} (s : State) → IsSafeBy fw s → (files : List File) (waits : List Wait) → IsSafeBy fw (record s { files = files; waits = waits })
unwaited {fw} s k files waits = record {
  accepted = k.accepted;
  application = k.application;
  scene = k.scene;
  among = k.among;
  own = k.own;
  others = k.others;
  own_held = k.own_held;
  others_held = k.others_held;
  work = k.work;
  transition = k.transition;
  timers = k.timers;
  queue = k.queue;
  faultless = k.faultless;
}

-- nor are a transition that begins or waits for a scene that is safe, and the scenes that are still late
pub turned : {fw : Flow} (s : State) (k : IsSafeBy fw s) (t : Transition) (late : List (List ℕ)) → IsSafeTransition s.service fw (config_of s) t → IsSafeBy fw (record s { transition = t; late = late })
turned {fw} s k t late safe = record {
  accepted = k.accepted;
  application = k.application;
  scene = k.scene;
  among = k.among;
  own = k.own;
  others = k.others;
  own_held = k.own_held;
  others_held = k.others_held;
  work = k.work;
  transition = safe;
  timers = k.timers;
  queue = k.queue;
  faultless = k.faultless;
}

-- where only objects, work, and who waits for a file do
pub kept_loads : {fw : Flow} (s : State) (k : IsSafeBy fw s) (os : Objects) (stack : List ObjRef) (waits : List Wait) (work : List Item) (n : ℕ) → parts os.application ≡ parts s.objects.application → parts os.scene ≡ parts s.objects.scene → Holds s k os → IsSafeWork s.service fw (config_of s) work → IsSafeBy fw (record s { objects = os; stack = stack; waits = waits; work = work; taken = n })
kept_loads {fw} s k os stack waits work n own others holds safe =
    unwaited (record s { objects = os; stack = stack; work = work; taken = n }) (kept_bodies s k os stack work n own others holds safe) s.files waits
