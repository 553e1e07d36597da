-- What is looked at of a state besides its objects: configuration, interaction, transition, lock, what waits, and, where the
-- entry may change it, the display stack. Not looked at are the work, the clock, timers, and content files.
use Rattle.std.specs.Prelude.{ℕ, ◌==◌, Bool, true, false, ◌&&◌, not, if◌then◌else◌, List, [], ◌∷◌, length, Option, Some, None}
use Rattle.std.specs.Option.{option_map}
use Rattle.std.specs.Str.{bytes_eq}
use Rattle.mh_base.specs.declared.obj_ref.ObjRef.{ObjRef}
use Rattle.mh_model.specs.declared.interaction.Interaction.{Interaction}
use Rattle.mh_model.specs.declared.transition.Transition.{Transition}
use Rattle.mh_model.specs.declared.transition.Transition.TheVariants as transition
use Rattle.mh_model.specs.Reference.{same_ref}
use Rattle.mh_model.specs.Rules.{is_begun}
use Rattle.mh_model.specs.State.{State}
use Rattle.mh_trace.specs.declared.seen.glance.Glance.{Glance}

abbrev pub interacting : Option Interaction → Option ObjRef
interacting i = option_map (λ x. x.object) i

-- the scene that is waited for
abbrev pub awaited : Transition → Option (List ℕ)
awaited (transition.Awaits g) = Some g
awaited _ = None

-- the display stack, where it is looked at
abbrev pub stack_if : Bool → List ObjRef → List ObjRef
stack_if stacks rs = if stacks then rs else []

-- where so many wait, with the display stack or without
abbrev pub glance_of : Bool → ℕ → State → Glance
glance_of stacks waiting s = record {
  application = s.application;
  scene = s.scene;
  interacts = interacting s.interaction;
  awaits = awaited s.transition;
  begun = is_begun s.transition;
  locks = s.locks;
  waiting = waiting;
  stack = stack_if stacks s.stack;
}

-- What is the same

abbrev pub same_name : Option (List ℕ) → Option (List ℕ) → Bool
same_name None None = true
same_name (Some g) (Some h) = bytes_eq g h
same_name _ _ = false

abbrev pub same_object : Option ObjRef → Option ObjRef → Bool
same_object None None = true
same_object (Some q) (Some r) = same_ref q r
same_object _ _ = false

abbrev pub same_refs : List ObjRef → List ObjRef → Bool
same_refs [] [] = true
same_refs (q ∷ qs) (r ∷ rs) = same_ref q r && same_refs qs rs
same_refs _ _ = false

abbrev pub same_flag : Bool → Bool → Bool
same_flag a b = if a then b else not b

abbrev pub same_groups : Glance → State → Bool
same_groups x t = bytes_eq x.application t.application && same_name x.scene t.scene

abbrev pub same_going : Glance → State → Bool
same_going x t =
    same_object x.interacts (interacting t.interaction) && same_name x.awaits (awaited t.transition) && same_flag x.begun (is_begun t.transition)

abbrev pub same_counts : Glance → State → Bool
same_counts x t = x.locks == t.locks && x.waiting == length t.queue

-- what was looked at is as it was
abbrev pub is_same : Bool → Glance → State → Bool
is_same stacks x t = same_groups x t && same_going x t && same_counts x t && same_refs x.stack (stack_if stacks t.stack)
