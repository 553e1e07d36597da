-- What is noted of objects, without a theorem: what seems to be a mistake by the rule of an action or of a class alone.
use Rattle.std.specs.Prelude.{ℕ, ◌+◌, ◌-◌, ◌==◌, Bool, true, false, ◌&&◌, ◌||◌, not, if◌then◌else◌, List, [], ◌∷◌, ◌++◌, drop, length, codes, Option, Some, None, ℤ, pos, int_lt}
use Rattle.std.specs.List.{flat_map, list_any, position}
use Rattle.std.specs.Ordering.{int_eq}
use Rattle.std.specs.Str.{bytes_eq}
use Rattle.mh_base.specs.declared.event.EventType.{EventType}
use Rattle.mh_base.specs.declared.event.EventType.TheVariants as event
use Rattle.mh_base.specs.declared.obj_ref.ObjRef.{ObjRef}
use Rattle.mh_base.specs.declared.value.Value.{Value}
use Rattle.mh_base.specs.declared.value.Value.TheVariants as value
use Rattle.mh_group.specs.declared.action_name.ActionName.{ActionName}
use Rattle.mh_group.specs.declared.action_name.ActionName.TheVariants as action
use Rattle.mh_group.specs.declared.attribute.Attribute.TheVariants as attribute
use Rattle.mh_group.specs.declared.class.Class.{Class}
use Rattle.mh_group.specs.Table.{is_application, is_entry_field, is_link, is_scene, is_variable, is_visible}
use Rattle.mh_model.specs.declared.act.Act.{Act}
use Rattle.mh_model.specs.declared.act.Argument.{Argument}
use Rattle.mh_model.specs.declared.act.Argument.TheVariants as argument
use Rattle.mh_model.specs.declared.act.Target.{Target}
use Rattle.mh_model.specs.declared.act.Target.TheVariants as target
use Rattle.mh_model.specs.declared.object.Fixed.{Fixed}
use Rattle.mh_model.specs.declared.object.member.Member.{Member}
use Rattle.mh_model.specs.Groups.{is_initially_active, is_shared}
use Rattle.mh_model.specs.Late.{is_late_scene}
use Rattle.mh_model.specs.Property.{held, as_effect, as_event, as_int, as_value}
use Rattle.mh_model.specs.Reference.{same_ref}
use Rattle.mh_model.specs.Service.{Service}
use Rattle.mh_model.specs.Tokens.{members}
use Rattle.mh_told.specs.Reading.{Source}
use Rattle.mh_lint.specs.declared.note.Note.{Note}
use Rattle.mh_lint.specs.declared.rule.Rule.{Rule}
use Rattle.mh_lint.specs.declared.rule.Rule.TheVariants as rule
use Rattle.mh_lint.specs.declared.seen.Seen.{Seen}
use Rattle.mh_lint.specs.Sights.{covers_none, cuts_words, hides_words, is_off}
use Rattle.mh_lint.specs.Sources.{file_of, has_unknown, is_called_else, is_glued, is_mistaken, is_to_come}
use Rattle.mh_lint.specs.Uses.{Uses, is_timing, is_used, uses, leave_alone}

-- of the action with this number of the object, from 1 on, or with 0 of the object itself
abbrev pub note : Rule → ObjRef → ℕ → Note
note x r n = record { rule = x; at = r; index = n }

-- where the test holds, the one; else none
abbrev pub if_so : Bool → Rule → ObjRef → ℕ → List Note
if_so b x r n = if b then note x r n ∷ [] else []

-- ACTIONS, by what is written in them

abbrev pub is_zero : Argument → Bool
is_zero (argument.Direct (value.Int n)) = int_eq n (pos 0)
is_zero _ = false

abbrev pub is_negative : Argument → Bool
is_negative (argument.Direct (value.Int n)) = int_lt n (pos 0)
is_negative _ = false

abbrev pub is_no_colour : Argument → Bool
is_no_colour (argument.Direct (value.Octets os)) = not (length os == 4)
is_no_colour _ = false

abbrev pub divides : ActionName → Bool
divides action.Divide = true
divides action.Modulo = true
divides _ = false

abbrev pub sizes : ActionName → Bool
sizes action.SetBoxSize = true
sizes action.SetLineWidth = true
sizes _ = false

abbrev pub colours : ActionName → Bool
colours action.SetFillColour = true
colours action.SetLineColour = true
colours action.SetTextColour = true
colours _ = false

abbrev pub divides_by_zero : Act → Bool
divides_by_zero a = divides a.name && list_any is_zero a.arguments

abbrev pub has_negative : Act → Bool
has_negative a = sizes a.name && list_any is_negative a.arguments

abbrev pub has_no_colour : Act → Bool
has_no_colour a = colours a.name && list_any is_no_colour a.arguments

-- a scene whose file may still be to come: a transition waits for it, and what stands behind it is done
abbrev pub may_be_late : List (List ℕ) → Target → Bool
may_be_late [] t = false
may_be_late (g ∷ gs) (target.Direct r) = is_late_scene r.group (g ∷ gs)
may_be_late (g ∷ gs) (target.Through x) = true

-- the action leads away at once, unless something led away before: the work list is thrown away
abbrev pub leaves : List (List ℕ) → ActionName → Target → Bool
leaves gs action.Launch t = true
leaves gs action.Quit t = true
leaves gs action.TransitionTo t = not (may_be_late gs t)
leaves gs _ t = false

abbrev pub leaves_at_once : List (List ℕ) → Act → Bool
leaves_at_once gs a = leaves gs a.name a.target

-- a timer is left alone by what links hear
abbrev pub is_lone : Uses → ObjRef → ℤ → Bool
is_lone u r n = leave_alone (record { heard = u.heard; timed = u.timed }) r n

-- a timer that is set with a number of its own, and that no link hears
abbrev pub sets_unheard : Uses → Target → List Argument → Bool
sets_unheard u (target.Direct r) (argument.Direct (value.Int n) ∷ moment ∷ more) = is_lone u r n
sets_unheard u _ _ = false

abbrev pub is_unheard : Uses → Act → Bool
is_unheard u a = is_timing a.name && sets_unheard u a.target a.arguments

abbrev pub is_lock : ActionName → Bool
is_lock action.LockScreen = true
is_lock _ = false

-- the screen is locked, and no action unlocks it
abbrev pub locks_for_ever : Uses → Act → Bool
locks_for_ever u a = is_lock a.name && not u.has_unlock

-- THE ACTIONS OF AN OBJECT, each with whether it stands behind one that leads away

abbrev pub seen_as : Bool → Act → Seen
seen_as behind a = record { act = a; is_behind = behind }

-- of one effect, where the late scenes are given
unfoldable pub seen_from : List (List ℕ) → Bool → List Act → List Seen
seen_from gs behind [] = []
seen_from gs behind (a ∷ more) = seen_as behind a ∷ seen_from gs (leaves_at_once gs a) more

-- of the slots of a member
abbrev pub seen_in : List (List ℕ) → Member → List Seen
seen_in gs m = flat_map (seen_from gs false) m.slots

abbrev pub start_up : Fixed → List Act
start_up p = as_effect (held attribute.OnStartUp p.properties)

abbrev pub close_down : Fixed → List Act
close_down p = as_effect (held attribute.OnCloseDown p.properties)

abbrev pub link_effect : Fixed → List Act
link_effect p = as_effect (held attribute.LinkEffect p.properties)

-- in the order in which they are counted
abbrev pub seen_of : List (List ℕ) → Fixed → List Seen
seen_of gs p =
    seen_from gs false (start_up p) ++ seen_from gs false (close_down p) ++ seen_from gs false (link_effect p)
    ++ flat_map (seen_in gs) (members p)

-- what is noted of an action
unfoldable pub of_act : Uses → ObjRef → ℕ → Seen → List Note
of_act u r n x =
    if_so x.is_behind rule.BehindTransition r n ++ if_so (divides_by_zero x.act) rule.DivisionByZero r n
    ++ if_so (has_negative x.act) rule.NegativeSize r n ++ if_so (has_no_colour x.act) rule.ColourOctets r n
    ++ if_so (is_unheard u x.act) rule.UnheardTimer r n ++ if_so (locks_for_ever u x.act) rule.LockedForEver r n

-- of actions, of which the first has this number
unfoldable pub of_acts : Uses → ObjRef → ℕ → List Seen → List Note
of_acts u r n [] = []
of_acts u r n (x ∷ more) = of_act u r n x ++ of_acts u r (n + 1) more

-- OBJECTS

abbrev pub is_empty : List Act → Bool
is_empty [] = true
is_empty (a ∷ more) = false

abbrev pub does_nothing : Fixed → Bool
does_nothing p = is_link p.class && is_empty (link_effect p)

abbrev pub is_unread : Uses → Fixed → Bool
is_unread u p = is_variable p.class && not (is_used u.read p.key)

-- a field into which nothing is ever typed
abbrev pub takes_nothing : Uses → Fixed → Bool
takes_nothing u p = is_entry_field p.class && not (is_used u.touched p.key)

-- what is noted of a visible by what it looks like
unfoldable pub of_look : Uses → Fixed → List Note
of_look u p =
    if_so (is_off u p) rule.OffScreen p.key 0 ++ if_so (covers_none u p) rule.CoversNoCell p.key 0
    ++ if_so (cuts_words u p) rule.CutText p.key 0 ++ if_so (hides_words u p) rule.TextInItsColour p.key 0

-- the link hears that its own application runs: that comes once, and before any transition
abbrev pub is_start_of : List ℕ → Option EventType → Option Value → Bool
is_start_of g (Some event.IsRunning) (Some (value.Object r)) = r.number == 0 && bytes_eq r.group g
is_start_of g _ _ = false

abbrev pub hears_start : Fixed → Bool
hears_start p = is_start_of p.key.group (as_event (held attribute.EventType p.properties)) (as_value (held attribute.EventSource p.properties))

abbrev pub can_end : Class → Bool
can_end c = is_link c || is_visible c

-- an item of an application runs from the start, ends with the first transition that there is, and is run by nothing again
abbrev pub is_lost : Uses → Fixed → Bool
is_lost u p =
    u.has_transition && can_end p.class && is_initially_active p && not (is_shared p) && not (is_used u.run p.key)
    && not (hears_start p)

-- of an object, in a group that is an application whose items run, or not
unfoldable pub of_itself : Uses → Bool → Fixed → List Note
of_itself u is_of_application p =
    if_so (is_of_application && is_lost u p) rule.NotShared p.key 0 ++ if_so (does_nothing p) rule.NoActions p.key 0
    ++ if_so (is_unread u p) rule.UnreadVariable p.key 0 ++ if_so (takes_nothing u p) rule.NoInteraction p.key 0 ++ of_look u p

-- content that has to arrive is told where all is asked for
unfoldable pub of_content : Bool → List Source → Fixed → List Note
of_content all fs p =
    if_so (is_glued fs p) rule.BareLineFeeds p.key 0 ++ if_so (is_mistaken fs p) rule.NamedAlike p.key 0
    ++ if_so (all && is_to_come fs p) rule.ContentToCome p.key 0

-- of an object: of itself, of its content and of its actions
unfoldable pub of_object : Bool → List Source → Uses → List (List ℕ) → Bool → Fixed → List Note
of_object all fs u gs is_of_application p =
    of_itself u is_of_application p ++ of_content all fs p ++ of_acts u p.key 1 (seen_of gs p)

-- GROUPS

abbrev pub ends_in : List ℕ → List ℕ → Bool
ends_in end bs = bytes_eq (drop (length bs - length end) bs) end

abbrev pub is_backup : List ℕ → Bool
is_backup g = ends_in (codes "~") g || ends_in (codes ".bak") g || ends_in (codes ".swp") g

-- the application leads away in its start-up, though items of it are active at first
abbrev pub led_away : ObjRef → Option ℕ → List Note
led_away r None = []
led_away r (Some n) = note rule.StartLeadsAway r (n + 1) ∷ []

abbrev pub of_start : List (List ℕ) → Fixed → List Fixed → List Note
of_start gs p items =
    if is_application p.class && list_any is_initially_active items
    then led_away p.key (position (leaves_at_once gs) (start_up p)) else []

-- by the file of a group
unfoldable pub of_file : List Source → ObjRef → List Note
of_file fs r =
    if_so (is_backup r.group) rule.EditorBackup r 0
    ++ if_so (is_called_else (file_of fs r.group) r.group) rule.IdentifierDiffers r 0
    ++ if_so (has_unknown (file_of fs r.group)) rule.UnknownRule r 0

-- an application that stays when it starts, so that its items run
abbrev pub runs_items : List (List ℕ) → Fixed → Bool
runs_items gs p = is_application p.class && not (list_any (leaves_at_once gs) (start_up p))

-- of a group and its items
unfoldable pub of_group : List Source → List (List ℕ) → Fixed → List Fixed → List Note
of_group fs gs p items = of_file fs p.key ++ of_start gs p items

-- of all objects of a group, of which the first is the group itself
abbrev pub of_parts : Bool → List Source → Uses → List (List ℕ) → List Fixed → List Note
of_parts all fs u gs [] = []
of_parts all fs u gs (p ∷ items) =
    of_group fs gs p items ++ flat_map (of_object all fs u gs (runs_items gs p)) (p ∷ items)

-- of all groups, in their order, by what is done to their objects
unfoldable pub notes_with : Bool → List Source → Uses → Service → List Note
notes_with all fs u v = flat_map (λ g. of_parts all fs u v.late g.1) v.groups

-- the same by what the service itself does
abbrev pub notes : Bool → List Source → Service → List Note
notes all fs v = notes_with all fs (uses v) v
