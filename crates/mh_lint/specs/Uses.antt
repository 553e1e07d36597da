-- What the actions of a service are done to, wherever they stand and whether or not they are ever done; and what links wait for
-- timers.
use Rattle.std.specs.Prelude.{◌≡◌, Bool, true, false, not, ◌&&◌, ◌||◌, if◌then◌else◌, List, [], ◌∷◌, ◌++◌, map, Option, Some, None, ℤ}
use Rattle.std.specs.List.{flat_map, list_any}
use Rattle.std.specs.Map.{lookup}
use Rattle.std.specs.Option.{option_map_or}
use Rattle.std.specs.Ordering.{int_eq}
use Rattle.mh_base.specs.declared.event.EventType.{EventType}
use Rattle.mh_base.specs.declared.event.EventType.TheVariants as event
use Rattle.mh_base.specs.declared.obj_ref.ObjRef.{ObjRef}
use Rattle.mh_base.specs.declared.value.Value.{Value}
use Rattle.mh_base.specs.declared.value.Value.TheVariants as value
use Rattle.mh_group.specs.declared.action_name.ActionName.{ActionName}
use Rattle.mh_group.specs.declared.action_name.ActionName.TheVariants as action
use Rattle.mh_group.specs.declared.attribute.Attribute.TheVariants as attribute
use Rattle.mh_group.specs.Table.{is_link, is_list_group}
use Rattle.mh_model.specs.declared.act.Act.{Act}
use Rattle.mh_model.specs.declared.act.Argument.{Argument}
use Rattle.mh_model.specs.declared.act.Argument.TheVariants as argument
use Rattle.mh_model.specs.declared.act.Target.{Target}
use Rattle.mh_model.specs.declared.act.Target.TheVariants as target
use Rattle.mh_model.specs.declared.object.Fixed.{Fixed}
use Rattle.mh_model.specs.declared.object.member.Member.{Member}
use Rattle.mh_model.specs.Effects.{actions}
use Rattle.mh_model.specs.Property.{held, as_event, as_value}
use Rattle.mh_model.specs.Reference.{same_key, same_ref}
use Rattle.mh_model.specs.Service.{Service}
use Rattle.mh_model.specs.Tokens.{members}
use Rattle.mh_lint.specs.declared.timers.Timers.{Timers}
use Rattle.mh_lint.specs.declared.uses.Change.{Change}
use Rattle.mh_lint.specs.declared.uses.Change.TheVariants as change

-- what is changed by which actions
abbrev pub changes : Change → ActionName → Bool
changes change.Position action.SetPosition = true
changes change.Size action.SetBoxSize = true
changes change.Words action.SetData = true
changes change.Words action.SetLabel = true
changes change.Colour action.SetTextColour = true
changes change.Running action.Run = true
changes change.Running action.Activate = true
changes change.Interaction action.SetInteractionStatus = true
changes c n = false

-- what an action is done to that changes this
abbrev pub changed_by : Change → Act → List Target
changed_by c a = if changes c a.name then a.target ∷ [] else []

-- LISTS AND TOKEN GROUPS place and run their members, and a list what is added to it.

abbrev pub member_target : Member → Target
member_target m = target.Direct m.object

-- what an argument may be that is given to a list
abbrev pub given : Argument → List Target
given (argument.Direct (value.Object r)) = target.Direct r ∷ []
given (argument.Through x k) = target.Through x ∷ []
given _ = []

abbrev pub adds : ActionName → Bool
adds action.AddItem = true
adds _ = false

abbrev pub added_by : Act → List Target
added_by a = if adds a.name then flat_map given a.arguments else []

-- what a list has from the start
abbrev pub listed_by : Fixed → List Target
listed_by p = if is_list_group p.class then map member_target (members p) else []

abbrev pub grouped_by : Fixed → List Target
grouped_by p = map member_target (members p)

-- READING A VARIABLE: an action is done to what it refers to, tests it, takes its value, or hands it to a program.

abbrev pub is_test : ActionName → Bool
is_test action.TestVariable = true
is_test _ = false

abbrev pub is_call : ActionName → Bool
is_call action.Call = true
is_call action.Fork = true
is_call _ = false

abbrev pub gone_through : Target → List Target
gone_through (target.Direct r) = []
gone_through (target.Through x) = target.Direct x ∷ []

abbrev pub read_argument : Bool → Argument → List Target
read_argument calls (argument.Direct v) = []
read_argument calls (argument.Through x k) = target.Direct x ∷ []
read_argument calls (argument.Receiver x) = if calls then target.Direct x ∷ [] else []

abbrev pub tested_by : Act → List Target
tested_by a = if is_test a.name then a.target ∷ [] else []

unfoldable pub read_by : Act → List Target
read_by a = tested_by a ++ gone_through a.target ++ flat_map (read_argument (is_call a.name)) a.arguments

-- TIMERS

-- what a link that waits for this hears of timers: that with a number, or all of the group
abbrev pub heard : Option EventType → Option Value → Option Value → List Timers
heard (Some event.TimerFired) (Some (value.Object r)) None = record { at = r; id = None } ∷ []
heard (Some event.TimerFired) (Some (value.Object r)) (Some (value.Int n)) = record { at = r; id = Some n } ∷ []
heard _ _ _ = []

abbrev pub heard_by : Fixed → List Timers
heard_by p =
    if is_link p.class
    then heard (as_event (held attribute.EventType p.properties)) (as_value (held attribute.EventSource p.properties)) (as_value (held attribute.EventData p.properties))
    else []

abbrev pub is_timing : ActionName → Bool
is_timing action.SetTimer = true
is_timing _ = false

-- what an action sets: the timer of its number where that is written, else any of the group
abbrev pub set : Target → List Argument → List Timers
set (target.Direct r) (argument.Direct (value.Int n) ∷ more) = record { at = r; id = Some n } ∷ []
set (target.Direct r) more = record { at = r; id = None } ∷ []
set (target.Through x) more = []

abbrev pub set_by : Act → List Timers
set_by a = if is_timing a.name then set a.target a.arguments else []

-- ALL OF A SERVICE

abbrev pub is_transit : ActionName → Bool
is_transit action.TransitionTo = true
is_transit _ = false

abbrev pub is_unlock : ActionName → Bool
is_unlock action.UnlockScreen = true
is_unlock _ = false

abbrev pub objects : Service → List Fixed
objects v = flat_map (λ g. g.1) v.groups

-- what is moved, given another size, other words, another colour of its text; what is run; which variables
-- are read; what is let interact; which timers are heard and which are set; and that there is a transition, and what unlocks the
-- screen
pub record Uses : Type 0 where
  pub moved : List Target
  pub resized : List Target
  pub reworded : List Target
  pub tinted : List Target
  pub run : List Target
  pub read : List Target
  pub touched : List Target
  pub heard : List Timers
  pub timed : List Timers
  pub has_transition : Bool
  pub has_unlock : Bool

abbrev pub uses_of : List Fixed → List Act → Uses
uses_of ps acts = record {
  moved = flat_map (changed_by change.Position) acts ++ flat_map added_by acts ++ flat_map listed_by ps;
  resized = flat_map (changed_by change.Size) acts;
  reworded = flat_map (changed_by change.Words) acts;
  tinted = flat_map (changed_by change.Colour) acts;
  run = flat_map (changed_by change.Running) acts ++ flat_map added_by acts ++ flat_map grouped_by ps;
  read = flat_map read_by acts;
  touched = flat_map (changed_by change.Interaction) acts;
  heard = flat_map heard_by ps;
  timed = flat_map set_by acts;
  has_transition = list_any (λ a. is_transit a.name) acts;
  has_unlock = list_any (λ a. is_unlock a.name) acts;
}

-- of all objects of a service, and of all actions of all their effects
abbrev pub uses : Service → Uses
uses v = uses_of (objects v) (flat_map actions (objects v))

-- THE OBJECT may be what one of these leads to: it is named, or a variable is gone through, whatever that holds.

abbrev pub may_be : ObjRef → Target → Bool
may_be r (target.Direct x) = same_ref r x
may_be r (target.Through x) = true

abbrev pub is_used : List Target → ObjRef → Bool
is_used ts r = list_any (may_be r) ts

-- by what that is found: the objects that are named, and whether a variable is gone through

abbrev pub is_named : ObjRef → Target → Bool
is_named r (target.Direct x) = same_ref r x
is_named r (target.Through x) = false

abbrev pub is_through : Target → Bool
is_through (target.Direct x) = false
is_through (target.Through x) = true

abbrev pub AreFound : List Target → List ObjRef → Bool → Type 0
AreFound ts named through = (r : ObjRef) → is_used ts r ≡ (through || list_any (same_key r) named)

-- the timer with this number of the group may be one of these
abbrev pub has_number : Option ℤ → ℤ → Bool
has_number None n = true
has_number (Some m) n = int_eq m n

abbrev pub may_be_timer : ObjRef → ℤ → Timers → Bool
may_be_timer r n t = if same_ref r t.at then has_number t.id n else false

abbrev pub is_among : List Timers → ObjRef → ℤ → Bool
is_among ts r n = list_any (may_be_timer r n) ts

-- a link waits for a timer of the group with a number that none of these has, whose line tells so
abbrev pub is_unset : List Timers → ObjRef → Option ℤ → Bool
is_unset ts r None = false
is_unset ts r (Some n) = not (is_among ts r n)

abbrev pub waits_in_vain : List Timers → ObjRef → Timers → Bool
waits_in_vain ts r h = if same_ref r h.at then is_unset ts r h.id else false

-- what links hear of timers, and which actions set
pub record KnownTimers : Type 0 where
  pub heard : List Timers
  pub timed : List Timers

-- the timer is not heard, and no link of those that wait for one of its group waits in vain: else one of the numbers is the
-- mistake, and that link has its line
abbrev pub leave_alone : KnownTimers → ObjRef → ℤ → Bool
leave_alone k r n = not (is_among k.heard r n) && not (list_any (waits_in_vain k.timed r) k.heard)

-- by what that is found: the numbers of each group

pub record Numbers : Type 0 where
  pub has_all : Bool
  pub numbers : List ℤ

abbrev pub numbers_have : Numbers → ℤ → Bool
numbers_have x n = x.has_all || list_any (int_eq n) x.numbers

abbrev pub table_has : List (ObjRef × Numbers) → ObjRef → ℤ → Bool
table_has es r n = option_map_or (λ (x : Numbers). numbers_have x n) (lookup (same_key r) es) false

abbrev pub lacks : List (ObjRef × Numbers) → ObjRef → Type 0
lacks es r = lookup (same_key r) es ≡ None

abbrev pub AreTabled : List Timers → List (ObjRef × Numbers) → Type 0
AreTabled ts es = (r : ObjRef) (n : ℤ) → table_has es r n ≡ is_among ts r n

-- the groups of which a link waits in vain

abbrev pub is_key_of : List ObjRef → ObjRef → Bool
is_key_of ks r = list_any (same_key r) ks

abbrev pub AreVain : List Timers → List Timers → List ObjRef → Type 0
AreVain ts hs ks = (r : ObjRef) → is_key_of ks r ≡ list_any (waits_in_vain ts r) hs
