-- The beginning of what is told of a step: its number, its entry with the place of an action, and who hears what it tells; in a
-- line, or as members of an object.
use Rattle.std.specs.Prelude.{ℕ, ◌+◌, if◌then◌else◌, List, [], ◌++◌, codes, slice_get, Option, Some, None}
use Rattle.std.specs.Fmt.{decimal}
use Rattle.std.specs.Map.{lookup}
use Rattle.mh_base.specs.declared.obj_ref.ObjRef.{ObjRef}
use Rattle.mh_model.specs.declared.act.Target.{Target}
use Rattle.mh_model.specs.declared.act.Target.TheVariants as target
use Rattle.mh_model.specs.declared.input.Input.TheVariants as input
use Rattle.mh_model.specs.declared.input.Waiting.{Waiting}
use Rattle.mh_model.specs.declared.input.Waiting.TheVariants as waiting
use Rattle.mh_model.specs.declared.item.Item.{Item}
use Rattle.mh_model.specs.declared.item.Item.TheVariants as item
use Rattle.mh_model.specs.declared.object.Object.{Object}
use Rattle.mh_model.specs.Arguments.{referred}
use Rattle.mh_model.specs.State.{State, all}
use Rattle.mh_model.specs.Step.{is_empty}
use Rattle.mh_trace.specs.declared.site.Site.{Site}
use Rattle.mh_trace.specs.declared.form.Form.{Form}
use Rattle.mh_trace.specs.declared.form.Form.TheVariants as form
use Rattle.mh_trace.specs.Ears.{ears, key_note, told}
use Rattle.mh_trace.specs.Json.{behind, list_if, member_number, more_text, name_text, plain_text}
use Rattle.mh_trace.specs.Sites.{same_site}
use Rattle.mh_trace.specs.Why.{operands_json, operands_note, tested_json, tested_note}
use Rattle.mh_trace.specs.Words.{item_text, place_text, ref_text, site_text, waiting_text}
use Rattle.mh_trace.specs.Directory.{Directory, written_json, written_at}

-- what the next step works on

abbrev pub front : State → Option Item
front s = slice_get s.work 0

abbrev pub first : State → Option Waiting
first s = slice_get s.queue 0

-- where the action stands that the step does, if it does one
abbrev pub place_of : Option Item → List Site → Option Site
place_of (Some (item.Act a)) ps = slice_get ps 0
place_of _ ps = None

-- The entry: an item of the work list, or what is taken from the queue.

abbrev pub entry_text : Option Item → Option Waiting → List ℕ
entry_text (Some i) w = item_text i
entry_text None (Some w) = waiting_text w
entry_text None None = []

-- where an action stands

abbrev pub place_note : Directory → Option Site → List ℕ
place_note ws None = []
place_note ws (Some x) = codes ", " ++ site_text x ++ written_at ws x

-- to what an action is done whose target is found through a variable

abbrev pub found_note : Option ObjRef → List ℕ
found_note None = codes ", which refers to nothing"
found_note (Some r) = codes ", which is " ++ ref_text r

abbrev pub target_note : Target → List Object → List ℕ
target_note (target.Direct r) os = []
target_note (target.Through v) os = found_note (referred (target.Through v) os)

abbrev pub through_note : Option Item → List Object → List ℕ
through_note (Some (item.Act a)) os = target_note a.target os
through_note _ os = []

-- what becomes of a key

abbrev pub keyed_note : Option Item → Option Waiting → State → List ℕ
keyed_note None (Some (waiting.Input (input.Key k))) s = key_note k s.interaction s.scene (all s.objects)
keyed_note _ _ s = []

unfoldable pub number_text : ℕ → List ℕ
number_text n = decimal n ++ codes " "

-- what is done, and with which values
unfoldable pub entry_head : Option Item → Option Waiting → State → List ℕ
entry_head i w s = number_text (s.taken + 1) ++ entry_text i w ++ operands_note i (all s.objects)

-- where it stands, to what it is done, and what is tested
unfoldable pub place_head : Directory → Option Item → State → List Site → List ℕ
place_head ws i s ps = place_note ws (place_of i ps) ++ through_note i (all s.objects) ++ tested_note i (all s.objects)

-- who hears of it
unfoldable pub ears_head : Option Item → Option Waiting → State → List ℕ
ears_head i w s = keyed_note i w s ++ ears form.Text (told i w s) (all s.objects)

unfoldable pub head_text : Directory → Option Item → Option Waiting → State → List Site → List ℕ
head_text ws i w s ps = entry_head i w s ++ place_head ws i s ps ++ ears_head i w s

-- the same as members of an object

unfoldable pub number_json : ℕ → List ℕ
number_json n = codes "{" ++ name_text (codes "step") ++ decimal n

unfoldable pub site_json : Directory → Site → List ℕ
site_json ws x =
    member_number (codes "action") x.number ++ more_text (codes "of") (place_text x.object x.kind) ++ written_json (lookup (same_site x) ws)

abbrev pub place_json : Directory → Option Site → List ℕ
place_json ws None = []
place_json ws (Some x) = site_json ws x

abbrev pub found_json : Option ObjRef → List ℕ
found_json None = plain_text (codes "which") (codes "null")
found_json (Some r) = more_text (codes "which") (ref_text r)

abbrev pub target_json : Target → List Object → List ℕ
target_json (target.Direct r) os = []
target_json (target.Through v) os = found_json (referred (target.Through v) os)

abbrev pub through_json : Option Item → List Object → List ℕ
through_json (Some (item.Act a)) os = target_json a.target os
through_json _ os = []

-- what becomes of a key, without what stands between it and the entry in a line
unfoldable pub keyed_json : List ℕ → List ℕ
keyed_json note = if is_empty note then [] else more_text (codes "key") (behind note 2)

unfoldable pub entry_json : Option Item → Option Waiting → State → List ℕ
entry_json i w s = number_json (s.taken + 1) ++ more_text (codes "entry") (entry_text i w) ++ operands_json i (all s.objects)

unfoldable pub standing_json : Directory → Option Item → State → List Site → List ℕ
standing_json ws i s ps = place_json ws (place_of i ps) ++ through_json i (all s.objects) ++ tested_json i (all s.objects)

unfoldable pub ears_json : Option Item → Option Waiting → State → List ℕ
ears_json i w s = keyed_json (keyed_note i w s) ++ list_if (codes "heard") (ears form.Json (told i w s) (all s.objects))

unfoldable pub head_json : Directory → Option Item → Option Waiting → State → List Site → List ℕ
head_json ws i w s ps = entry_json i w s ++ standing_json ws i s ps ++ ears_json i w s

abbrev pub head_by : Form → Directory → Option Item → Option Waiting → State → List Site → List ℕ
head_by form.Text ws i w s ps = head_text ws i w s ps
head_by form.Json ws i w s ps = head_json ws i w s ps
