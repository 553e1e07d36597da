-- What is told of an effect of a circle: its action that puts the next effect to work, and how it does.
use Rattle.std.specs.Prelude.{ℕ, Bool, if◌then◌else◌, List, [], ◌∷◌, ◌++◌, codes, Option, Some, None}
use Rattle.std.specs.Fmt.{decimal, signed_decimal}
use Rattle.std.specs.Option.{option_map_or}
use Rattle.mh_base.specs.declared.event.EventType.{EventType}
use Rattle.mh_base.specs.declared.obj_ref.ObjRef.{ObjRef}
use Rattle.mh_base.specs.declared.value.Value.{Value}
use Rattle.mh_base.specs.declared.value.Value.TheVariants as value
use Rattle.mh_group.specs.Words.{action_word, event_word}
use Rattle.mh_model.specs.declared.event.Event.{Event}
use Rattle.mh_layers.specs.declared.arrows.arrow.Arrow.{Arrow}
use Rattle.mh_layers.specs.declared.arrows.arrow.By.{By}
use Rattle.mh_layers.specs.declared.arrows.arrow.By.TheVariants as by
use Rattle.mh_why.specs.declared.explanation.circle.TheConstants.{PUTS_TO_WORK, MAKES_EVENT, FOR_WHICH, CALLS_SLOT, ENTERS, LEAVES, STARTS_UP, CLOSES_DOWN}
use Rattle.mh_why.specs.Advice.{Row, cell, event_data, events, row_with}
use Rattle.mh_why.specs.Sources.{Source, shown_action}
use Rattle.mh_why.specs.Wrapping.{paragraph}

-- an object by its number and its group
unfoldable pub at_words : ObjRef → List ℕ
at_words r = codes "object " ++ decimal r.number ++ codes " of " ++ r.group

-- EVENTS

unfoldable pub truth_words : Bool → List ℕ
truth_words b = if b then codes "true" else codes "false"

unfoldable pub octet_words : List ℕ → List ℕ
octet_words bs = codes "'" ++ bs ++ codes "'"

abbrev pub data_text : Value → List ℕ
data_text (value.Bool b) = truth_words b
data_text (value.Int n) = signed_decimal n
data_text (value.Octets bs) = octet_words bs
data_text (value.Object r) = at_words r
data_text (value.Content name) = name

-- what stands in front of the data of an event of the type with this word
abbrev pub before_data : List ℕ → List ℕ
before_data word = option_map_or (λ row. cell row 1) (row_with event_data word) (codes " with ")

abbrev pub data_behind : EventType → Option Value → List ℕ
data_behind kind None = []
data_behind kind (Some v) = before_data (event_word kind) ++ data_text v

-- what makes an event of its type come from its object

abbrev pub event_row : ObjRef → Row → List ℕ
event_row r row = cell row 1 ++ at_words r ++ cell row 2

unfoldable pub event_named : Event → List ℕ
event_named e = MAKES_EVENT.now ++ event_word e.kind ++ codes " of " ++ at_words e.source

unfoldable pub event_words : Event → List ℕ
event_words e = option_map_or (event_row e.source) (row_with events (event_word e.kind)) (event_named e)

-- an event for which the object waits
unfoldable pub waited_words : Event → ObjRef → List ℕ
waited_words e next = event_words e ++ data_behind e.kind e.data ++ FOR_WHICH.now ++ at_words next ++ codes " waits"

-- ARROWS

-- how the effect of this object is put to work
abbrev pub how_words : By → ObjRef → List ℕ
how_words (by.Event e) next = waited_words e next
how_words (by.Slot n) next = CALLS_SLOT.now ++ at_words next
how_words by.Entered next = ENTERS.now ++ next.group ++ STARTS_UP.now
how_words by.Left next = LEAVES.now ++ next.group ++ CLOSES_DOWN.now

unfoldable pub arrow_sentence : Arrow → ObjRef → List ℕ
arrow_sentence a next =
    codes "  " ++ action_word a.action ++ codes ", action " ++ decimal a.index ++ codes " of " ++ at_words a.cause.at ++ PUTS_TO_WORK.now
    ++ how_words a.by next ++ codes "."

-- the action of an effect that puts the effect of the other arrow to work, and where it stands
unfoldable pub arrow_text : List Source → Arrow → Arrow → List ℕ
arrow_text ss a next = paragraph (arrow_sentence a next.cause.at) ++ shown_action ss a.cause.at.group a.cause.at.number a.index

-- the arrow behind this one, which stands in front of these: the last leads to the first of all
abbrev pub next_in : Arrow → List Arrow → List Arrow → Arrow
next_in a (b ∷ bs) all = b
next_in a [] (b ∷ bs) = b
next_in a [] [] = a
