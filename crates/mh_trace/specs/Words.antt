-- What a trace says of single things: references, values, events, inputs, items and places of actions.
use Rattle.std.specs.Prelude.{ℕ, Bool, ◌&&◌, nat_le, if◌then◌else◌, List, [], ◌∷◌, ◌++◌, codes, map, Option, Some, None}
use Rattle.std.specs.Fmt.{decimal, signed_decimal}
use Rattle.mh_base.specs.declared.obj_ref.ObjRef.{ObjRef}
use Rattle.mh_base.specs.declared.value.Value.{Value}
use Rattle.mh_base.specs.declared.value.Value.TheVariants as value
use Rattle.mh_group.specs.Words.{action_word, event_word}
use Rattle.mh_model.specs.declared.act.Act.{Act}
use Rattle.mh_model.specs.declared.act.Target.{Target}
use Rattle.mh_model.specs.declared.act.Target.TheVariants as target
use Rattle.mh_model.specs.declared.event.Event.{Event}
use Rattle.mh_model.specs.declared.input.Input.{Input}
use Rattle.mh_model.specs.declared.input.Input.TheVariants as input
use Rattle.mh_model.specs.declared.input.Waiting.{Waiting}
use Rattle.mh_model.specs.declared.input.Waiting.TheVariants as waiting
use Rattle.mh_model.specs.declared.item.Item.{Item}
use Rattle.mh_model.specs.declared.item.Item.TheVariants as item
use Rattle.mh_script.specs.Script.{key_name}
use Rattle.mh_trace.specs.declared.site.EffectKind.{EffectKind}
use Rattle.mh_trace.specs.declared.site.EffectKind.TheVariants as kind
use Rattle.mh_trace.specs.declared.site.Site.{Site}

-- an object: its group, and its number there
unfoldable pub ref_text : ObjRef → List ℕ
ref_text r = r.group ++ codes " " ++ decimal r.number

-- Values

-- an octet: a visible character or a space as it is, any other as a dot
abbrev pub shown_octet : ℕ → ℕ
shown_octet b = if nat_le 32 b && nat_le b 126 then b else 46

abbrev pub shown_octets : List ℕ → List ℕ
shown_octets bs = map shown_octet bs

unfoldable pub octets_text : List ℕ → List ℕ
octets_text bs = codes "'" ++ shown_octets bs ++ codes "'"

unfoldable pub truth_text : Bool → List ℕ
truth_text b = if b then codes "true" else codes "false"

abbrev pub value_text : Value → List ℕ
value_text (value.Bool b) = truth_text b
value_text (value.Int n) = signed_decimal n
value_text (value.Octets bs) = octets_text bs
value_text (value.Object r) = ref_text r
value_text (value.Content name) = name

-- Events

abbrev pub data_text : Option Value → List ℕ
data_text None = []
data_text (Some v) = codes " with " ++ value_text v

unfoldable pub event_text : Event → List ℕ
event_text e = event_word e.kind ++ codes " of " ++ ref_text e.source ++ data_text e.data

-- What waits, as a script says it

unfoldable pub tick_text : ℕ → List ℕ
tick_text n = codes "tick " ++ decimal n

abbrev pub input_text : Input → List ℕ
input_text (input.Key k) = codes "key " ++ key_name k
input_text (input.Tick n) = tick_text n
input_text (input.Stream n) = codes "stream " ++ signed_decimal n
input_text (input.Engine n) = codes "engine " ++ signed_decimal n
input_text (input.Arrive f) = codes "file " ++ f.name
input_text (input.Scene g w) = codes "scene " ++ g

abbrev pub waiting_text : Waiting → List ℕ
waiting_text (waiting.Input i) = input_text i
waiting_text (waiting.Event e) = codes "take " ++ event_text e

-- Items

abbrev pub target_text : Target → List ℕ
target_text (target.Direct r) = ref_text r
target_text (target.Through v) = codes "through " ++ ref_text v

unfoldable pub act_text : Act → List ℕ
act_text a = action_word a.name ++ codes " " ++ target_text a.target

unfoldable pub halted_word : List ℕ
halted_word = codes "stop member "

unfoldable pub halted_text : ObjRef → List ℕ
halted_text r = halted_word ++ ref_text r

abbrev pub item_text : Item → List ℕ
item_text (item.Act a) = act_text a
item_text (item.Prepare r) = codes "prepare " ++ ref_text r
item_text (item.Run r) = codes "run " ++ ref_text r
item_text (item.Halt r) = codes "stop " ++ ref_text r
item_text (item.RunMember r) = codes "run member " ++ ref_text r
item_text (item.HaltMember r) = halted_text r
item_text (item.Drop r) = codes "drop " ++ ref_text r
item_text (item.Emit e) = event_text e
item_text (item.Enter g) = codes "enter " ++ g
item_text (item.Exchange g) = codes "exchange " ++ g
item_text item.End = codes "end"

-- Places of actions: the object, its effect, and the number of the action there, from 1 on

unfoldable pub slot_text : ℕ → ℕ → List ℕ
slot_text member slot = codes "slot " ++ decimal slot ++ codes " of member " ++ decimal member

abbrev pub effect_text : EffectKind → List ℕ
effect_text kind.StartUp = codes "OnStartUp"
effect_text kind.CloseDown = codes "OnCloseDown"
effect_text kind.Link = codes "LinkEffect"
effect_text (kind.Slot member slot) = slot_text member slot

unfoldable pub place_text : ObjRef → EffectKind → List ℕ
place_text r k = ref_text r ++ codes " " ++ effect_text k

unfoldable pub site_text : Site → List ℕ
site_text s = codes "action " ++ decimal s.number ++ codes " of " ++ place_text s.object s.kind
