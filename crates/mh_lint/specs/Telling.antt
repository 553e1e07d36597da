-- The lines of findings: where an object stands, what of it never happens, and why.
use Rattle.std.specs.Prelude.{ℕ, ◌==◌, Bool, true, false, not, if◌then◌else◌, List, [], ◌++◌, codes, Option, Some, None, ℤ, pos, int_lt, unsigned_abs}
use Rattle.std.specs.Fmt.{decimal}
use Rattle.std.specs.List.{find, flat_map}
use Rattle.std.specs.Option.{option_map}
use Rattle.std.specs.Str.{bytes_eq}
use Rattle.mh_base.specs.declared.event.EventType.{EventType}
use Rattle.mh_base.specs.declared.event.EventType.TheVariants as event
use Rattle.mh_base.specs.declared.obj_ref.ObjRef.{ObjRef}
use Rattle.mh_base.specs.declared.value.Value.{Value}
use Rattle.mh_base.specs.declared.value.Value.TheVariants as value
use Rattle.mh_group.specs.declared.attribute.Attribute.TheVariants as attribute
use Rattle.mh_group.specs.Table.{is_scene}
use Rattle.mh_group.specs.Words.{class_word, event_word}
use Rattle.mh_model.specs.declared.config.Config.{Config}
use Rattle.mh_model.specs.declared.object.Fixed.{Fixed}
use Rattle.mh_model.specs.Property.{held, as_event, as_value}
use Rattle.mh_model.specs.Service.{Service, group_parts, part_at}
use Rattle.mh_told.specs.Reading.{Source}
use Rattle.mh_places.specs.declared.place.Place.{Place}
use Rattle.mh_places.specs.Directory.{object_place}
use Rattle.mh_places.specs.Places.{place_text}
use Rattle.mh_alive.specs.Sendings.{is_key_data}
use Rattle.mh_lint.specs.declared.finding.Finding.{Finding}
use Rattle.mh_lint.specs.declared.finding.Finding.TheVariants as finding
use Rattle.mh_lint.specs.declared.reasons.Lack.{Lack}
use Rattle.mh_lint.specs.declared.reasons.Lack.TheVariants as lack
use Rattle.mh_lint.specs.Findings.{is_unreached, waits_beyond}

-- Places

unfoldable pub place_words : Option Place → List ℕ
place_words None = []
place_words (Some p) = place_text p ++ codes ":"

-- the file, and the place in it where that is found
unfoldable pub front_words : List Source → ObjRef → List ℕ
front_words fs r = r.group ++ codes ":" ++ place_words (object_place fs r)

-- Objects

unfoldable pub class_words : Option Fixed → List ℕ
class_words None = codes "object"
class_words (Some p) = class_word p.class

unfoldable pub object_words : Service → ObjRef → List ℕ
object_words v r = class_words (part_at r (group_parts v r.group)) ++ codes " " ++ decimal r.number

unfoldable pub group_words : List ℕ → List ℕ → List ℕ
group_words g h = if bytes_eq h g then [] else codes " of " ++ h

-- an object, with its group where that is another
unfoldable pub source_words : Service → List ℕ → ObjRef → List ℕ
source_words v g r = object_words v r ++ group_words g r.group

unfoldable pub signed_words : ℤ → List ℕ
signed_words n = (if int_lt n (pos 0) then codes "-" else []) ++ decimal (unsigned_abs n)

unfoldable pub value_words : Value → List ℕ
value_words (value.Bool true) = codes "true"
value_words (value.Bool false) = codes "false"
value_words (value.Int n) = signed_words n
value_words (value.Octets os) = codes "these octets"
value_words (value.Object r) = codes "this object"
value_words (value.Content g) = codes "this content"

-- data that a link names
unfoldable pub data_words : Option Value → List ℕ
data_words None = []
data_words (Some (value.Int n)) = codes " " ++ signed_words n
data_words (Some x) = codes " with " ++ value_words x

-- of this object
unfoldable pub of_words : Service → List ℕ → ObjRef → List ℕ
of_words v g r = codes " of " ++ source_words v g r

-- REASONS. Of an object in a group that nothing leads to that is the reason, and so it is of a link that waits for one.

unfoldable pub beyond_words : List ℕ
beyond_words = codes ": nothing leads to its group"

unfoldable pub beyond_front : List ℕ
beyond_front = codes ": nothing leads to the group of "

unfoldable pub source_beyond_words : Service → List ℕ → Option Value → List ℕ
source_beyond_words v g (Some (value.Object r)) = beyond_front ++ source_words v g r
source_beyond_words v g d = []

unfoldable pub unrun_words : List ℕ
unrun_words = codes ": it is not active at first, and no active action runs it"

unfoldable pub idle_reason : List Config → List ℕ → List ℕ
idle_reason cs g = if is_unreached cs g then beyond_words else unrun_words

unfoldable pub no_action_words : List ℕ
no_action_words = codes ": no active action emits "

-- that nothing emits the event
unfoldable pub emits_words : Service → List ℕ → EventType → ObjRef → Option Value → List ℕ
emits_words v g kind r d = no_action_words ++ event_word kind ++ data_words d ++ of_words v g r

-- Why the link never hears what it waits for: that only such links set the timer, that no key has such data, that the key is one of
-- what is no scene, or that no register of the scene lets it through.

unfoldable pub timer_front : List ℕ
timer_front = codes ": timer"

unfoldable pub timer_end : List ℕ
timer_end = codes " is only set by links that never hear"

unfoldable pub timer_words : Service → List ℕ → ObjRef → Option Value → List ℕ
timer_words v g r d = timer_front ++ data_words d ++ of_words v g r ++ timer_end

unfoldable pub no_key_words : Value → List ℕ
no_key_words x = codes ": no key comes with " ++ value_words x

unfoldable pub keyless_front : List ℕ
keyless_front = codes ": "

unfoldable pub keyless_end : List ℕ
keyless_end = codes " hears no keys"

unfoldable pub keyless_words : Service → List ℕ → ObjRef → List ℕ
keyless_words v g r = keyless_front ++ source_words v g r ++ keyless_end

unfoldable pub key_front : List ℕ
key_front = codes ": key"

unfoldable pub key_end : List ℕ
key_end = codes " is let through by no register"

unfoldable pub blocked_words : Service → List ℕ → ObjRef → Option Value → List ℕ
blocked_words v g r d = key_front ++ data_words d ++ of_words v g r ++ key_end

-- there is such an object, and it is a scene
abbrev pub is_some_scene : Option Fixed → Bool
is_some_scene None = false
is_some_scene (Some p) = is_scene p.class

unfoldable pub unlet_words : Service → List ℕ → ObjRef → Option Value → List ℕ
unlet_words v g r d = if is_some_scene (part_at r (group_parts v r.group)) then blocked_words v g r d else keyless_words v g r

unfoldable pub key_words : Service → List ℕ → ObjRef → Option Value → List ℕ
key_words v g r None = unlet_words v g r None
key_words v g r (Some x) = if is_key_data (Some x) then unlet_words v g r (Some x) else no_key_words x

unfoldable pub unheard_words : Service → List ℕ → EventType → ObjRef → Option Value → List ℕ
unheard_words v g event.TimerFired r d = timer_words v g r d
unheard_words v g event.UserInput r d = key_words v g r d
unheard_words v g _ r d = []

-- what the link lacks
unfoldable pub lack_words : Lack → Service → List ℕ → Option EventType → Option Value → Option Value → List ℕ
lack_words lack.Emission v g (Some kind) (Some (value.Object r)) d = emits_words v g kind r d
lack_words lack.Hearing v g (Some kind) (Some (value.Object r)) d = unheard_words v g kind r d
lack_words l v g _ _ d = []

unfoldable pub waits_words : Lack → Service → List Config → Fixed → List ℕ
waits_words l v cs p =
    if waits_beyond cs p then source_beyond_words v p.key.group (as_value (held attribute.EventSource p.properties))
    else lack_words l v p.key.group (as_event (held attribute.EventType p.properties)) (as_value (held attribute.EventSource p.properties)) (as_value (held attribute.EventData p.properties))

unfoldable pub link_words : Lack → Service → List Config → Option Fixed → List ℕ
link_words l v cs None = []
link_words l v cs (Some p) = waits_words l v cs p

unfoldable pub link_reason : Lack → Service → List Config → ObjRef → List ℕ
link_reason l v cs r = if is_unreached cs r.group then beyond_words else link_words l v cs (part_at r (group_parts v r.group))

-- Findings

unfoldable pub unreached_words : List ℕ
unreached_words = codes " is entered by nothing: no active action leads to it"

unfoldable pub idle_words : List Config → List ℕ → List ℕ
idle_words cs g = codes " is run by nothing" ++ idle_reason cs g

unfoldable pub unsaid_words : EventType → Value → List ℕ
unsaid_words kind x = codes " waits for " ++ event_word kind ++ codes " with " ++ value_words x ++ codes ": none comes with that"

unfoldable pub unput_words : Service → List Config → ObjRef → List ℕ
unput_words v cs r = codes " is put to work by nothing" ++ link_reason lack.Emission v cs r

unfoldable pub deaf_words : Service → List Config → ObjRef → List ℕ
deaf_words v cs r = codes " hears nothing" ++ link_reason lack.Hearing v cs r

-- what is said of a finding behind its object, where these configurations are reached
abbrev pub said_words : Service → List Config → Finding → List ℕ
said_words v cs (finding.Unreached r) = unreached_words
said_words v cs (finding.Idle r) = idle_words cs r.group
said_words v cs (finding.Unsaid r kind x) = unsaid_words kind x
said_words v cs (finding.Unput r) = unput_words v cs r
said_words v cs (finding.Deaf r) = deaf_words v cs r

abbrev pub object_of : Finding → ObjRef
object_of (finding.Unreached r) = r
object_of (finding.Idle r) = r
object_of (finding.Unsaid r kind x) = r
object_of (finding.Unput r) = r
object_of (finding.Deaf r) = r

unfoldable pub finding_words : Service → List Config → List Source → Finding → List ℕ
finding_words v cs fs f = front_words fs (object_of f) ++ codes " never: " ++ object_words v (object_of f) ++ said_words v cs f ++ codes "\n"

-- a line each
abbrev pub never_words : Service → List Config → List Source → List Finding → List ℕ
never_words v cs fs found = flat_map (finding_words v cs fs) found
