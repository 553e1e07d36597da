-- Safe states: nothing on the work list will be stuck when its turn comes, whatever is done before it.
use Rattle.std.specs.Prelude.{◌≡◌, ◌⊎◌, ◌≤◌, ℕ, Bool, true, ◌||◌, if◌then◌else◌, List, [], ◌∷◌, Option, Some, None}
use Rattle.std.specs.List.{list_all}
use Rattle.mh_base.specs.declared.obj_ref.ObjRef.{ObjRef}
use Rattle.mh_group.specs.Table.{is_scene, is_application, is_list_group, is_visible}
use Rattle.mh_model.specs.declared.act.Act.{Act}
use Rattle.mh_model.specs.declared.config.Config.{Config}
use Rattle.mh_model.specs.declared.input.Waiting.{Waiting}
use Rattle.mh_model.specs.declared.input.Waiting.TheVariants as waiting
use Rattle.mh_model.specs.declared.item.Item.{Item}
use Rattle.mh_model.specs.declared.item.Item.TheVariants as item
use Rattle.mh_model.specs.declared.object.Fixed.{Fixed}
use Rattle.mh_model.specs.declared.object.Object.{Object}
use Rattle.mh_model.specs.declared.time.Timer.{Timer}
use Rattle.mh_model.specs.declared.transition.Transition.{Transition}
use Rattle.mh_model.specs.declared.transition.Transition.TheVariants as transition
use Rattle.mh_model.specs.Service.{Service, parts, group_parts, is_there}
use Rattle.mh_model.specs.Reference.{group_ref}
use Rattle.mh_model.specs.Faults.{object_wrongs}
use Rattle.mh_model.specs.Known.{class_at}
use Rattle.mh_model.specs.ListItems.{has_item}
use Rattle.mh_model.specs.Lists.{objects_of}
use Rattle.mh_model.specs.Property.{as_reference, value_held}
use Rattle.mh_model.specs.State.{State}
use Rattle.mh_model.specs.Configuration.{is_group_of, scene_parts, present}
use Rattle.mh_laws.specs.Acceptable.{IsAcceptableBy, is_right}
use Rattle.mh_laws.specs.Active.{active_actions}
use Rattle.mh_laws.specs.Each.{Among, Each}
use Rattle.mh_laws.specs.Flow.{Flow, IsLed, IsOpen, Keeps, Sets, has, reached, refers}
use Rattle.mh_laws.specs.Ways.{count_of}

-- what an object holds is in its set, and its list has no item twice
pub record IsHeldOnce (h : Sets) (o : Object) : Type 0 where
  pub value : refers o.fixed.class ≡ true → (q : ObjRef) → as_reference (value_held o.fixed o.body) ≡ Some q → has h o.fixed.key q ≡ true
  pub items : is_list_group o.fixed.class ≡ true → (q : ObjRef) → has_item q o.body.list.entries ≡ true → has h o.fixed.key q ≡ true
  pub once : (q : ObjRef) → count_of q (objects_of o.body.list.entries) ≤ 1

-- the configuration that a state is in
abbrev pub config_of : State → Config
config_of s = record { app = s.application; scene = s.scene }

-- an action of an active effect, with which nothing is wrong in the configuration, whose references the sets keep, and that
-- leads where the flow does
pub record IsFine (v : Service) (w : Flow) (c : Config) (a : Act) : Type 0 where
  pub active : Among (active_actions (present v c)) a
  pub right : is_right v (w.sets c) (present v c) a ≡ true
  pub keeps : Keeps (w.sets c) (present v c) a
  pub led : IsLed v w c a

-- the group is one of those of the configuration
abbrev pub IsPartOf : Config → List ℕ → Type 0
IsPartOf c g = (g ≡ c.app) ⊎ (c.scene ≡ Some g)

-- the configuration behind an exchange for this group
abbrev pub exchanged : Service → Config → List ℕ → Config
exchanged v c g =
    if is_group_of is_application v g then record { app = g; scene = None } else record c { scene = Some g }

-- an item that can be done in the configuration: nothing in it is absent, and it leads to no other than these
abbrev pub IsSafeItem : Service → Flow → Config → Item → Type 0
IsSafeItem v w c (item.Act a) = IsFine v w c a
IsSafeItem v w c (item.Prepare r) = Unit {0}
IsSafeItem v w c (item.Run r) = Unit {0}
IsSafeItem v w c (item.Halt r) = Unit {0}
IsSafeItem v w c (item.RunMember r) = object_wrongs is_visible None r (class_at r (present v c)) ≡ []
IsSafeItem v w c (item.HaltMember r) = object_wrongs is_visible None r (class_at r (present v c)) ≡ []
IsSafeItem v w c (item.Drop r) = Unit {0}
IsSafeItem v w c (item.Emit e) = is_there e.source (present v c) ≡ true
IsSafeItem v w c (item.Enter g) = IsPartOf c g
IsSafeItem v w c (item.Exchange g) =
    ((is_group_of is_application v g || is_group_of is_scene v g) ≡ true) × IsOpen v w c (exchanged v c g)
IsSafeItem v w c item.End = Unit {0}

-- the configuration in which what stands behind an item is done
abbrev pub behind : Service → Config → Item → Config
behind v c (item.Act a) = c
behind v c (item.Prepare r) = c
behind v c (item.Run r) = c
behind v c (item.Halt r) = c
behind v c (item.RunMember r) = c
behind v c (item.HaltMember r) = c
behind v c (item.Drop r) = c
behind v c (item.Emit e) = c
behind v c (item.Enter g) = c
behind v c (item.Exchange g) = exchanged v c g
behind v c item.End = c

-- each item is safe in the configuration in which it will be done
abbrev pub IsSafeWork : Service → Flow → Config → List Item → Type 0
IsSafeWork v w c [] = Unit {0}
IsSafeWork v w c (i ∷ is) = IsSafeItem v w c i × IsSafeWork v w (behind v c i) is

-- a scene that is waited for may be exchanged for the one that is there
abbrev pub IsSafeTransition : Service → Flow → Config → Transition → Type 0
IsSafeTransition v w c transition.Rests = Unit {0}
IsSafeTransition v w c (transition.Awaits g) = IsSafeItem v w c (item.Exchange g)
IsSafeTransition v w c transition.Begun = Unit {0}

-- a timer is one of a group that is present
abbrev pub has_group : List Fixed → Timer → Bool
has_group ps t = is_there (group_ref t.group) ps

-- an event that waits comes from something present
abbrev pub has_origin : List Fixed → Waiting → Bool
has_origin ps (waiting.Input i) = true
has_origin ps (waiting.Event e) = is_there e.source ps

abbrev pub is_scene_if_any : Service → Option (List ℕ) → Bool
is_scene_if_any v None = true
is_scene_if_any v (Some g) = is_group_of is_scene v g

-- A safe state plays an acceptable service in a configuration that may be reached, its objects are those that
-- are present there and hold what the flow has for them, its work is safe, and so is a transition that waits, its
-- timers are those of groups that are present, what waits comes from objects that are, and no fault was met.
pub record IsSafeBy (w : Flow) (s : State) : Type 0 where
  pub accepted : IsAcceptableBy s.service w
  pub application : is_group_of is_application s.service s.application ≡ true
  pub scene : is_scene_if_any s.service s.scene ≡ true
  pub among : reached w (config_of s) ≡ true
  pub own : parts s.objects.application ≡ group_parts s.service s.application
  pub others : parts s.objects.scene ≡ scene_parts s.service s.scene
  pub own_held : Each (IsHeldOnce (w.sets (config_of s))) s.objects.application
  pub others_held : Each (IsHeldOnce (w.sets (config_of s))) s.objects.scene
  pub work : IsSafeWork s.service w (config_of s) s.work
  pub transition : IsSafeTransition s.service w (config_of s) s.transition
  pub timers : list_all (has_group (present s.service (config_of s))) s.timers ≡ true
  pub queue : list_all (has_origin (present s.service (config_of s))) s.queue ≡ true
  pub faultless : s.faults ≡ []

pub record IsSafe (s : State) : Type 0 where
  pub flow : Flow
  pub by : IsSafeBy flow s
