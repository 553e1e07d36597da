-- An entry of which nothing comes where nothing that is looked at changes: whatever else it did would be seen.
use Rattle.std.specs.Prelude.{Bool, true, false, List, Option, Some, None}
use Rattle.mh_group.specs.declared.action_name.ActionName.{ActionName}
use Rattle.mh_group.specs.declared.action_name.ActionName.TheVariants as action
use Rattle.mh_model.specs.declared.input.Input.{Input}
use Rattle.mh_model.specs.declared.input.Input.TheVariants as input
use Rattle.mh_model.specs.declared.input.Waiting.{Waiting}
use Rattle.mh_model.specs.declared.input.Waiting.TheVariants as waiting
use Rattle.mh_model.specs.declared.interaction.Interaction.{Interaction}
use Rattle.mh_model.specs.declared.item.Item.{Item}
use Rattle.mh_model.specs.declared.item.Item.TheVariants as item
use Rattle.mh_model.specs.declared.sort.Sort.{Sort}
use Rattle.mh_model.specs.declared.sort.Sort.TheVariants as sort
use Rattle.mh_model.specs.Sort.{sort_of}
use Rattle.mh_model.specs.Step.{is_empty}
use Rattle.mh_trace.specs.declared.site.Site.{Site}

abbrev pub is_quiet_name : ActionName → Bool
is_quiet_name action.Fork = false
is_quiet_name action.SetTimer = false
is_quiet_name _ = true

abbrev pub is_quiet_sort : Sort → ActionName → List Site → Bool
is_quiet_sort sort.Put action.CallActionSlot put = is_empty put
is_quiet_sort sort.Put n put = false
is_quiet_sort sort.Load n put = false
is_quiet_sort sort.Widget n put = false
is_quiet_sort _ n put = is_quiet_name n

abbrev pub is_quiet_item : Item → List Site → Bool
is_quiet_item (item.Act a) put = is_quiet_sort (sort_of a.name) a.name put
is_quiet_item (item.Emit e) put = is_empty put
is_quiet_item (item.Enter g) put = false
is_quiet_item (item.Exchange g) put = false
is_quiet_item item.End put = false
is_quiet_item _ put = true

abbrev pub is_quiet_input : Input → Option Interaction → List Site → Bool
is_quiet_input (input.Key k) None put = is_empty put
is_quiet_input (input.Engine n) i put = is_empty put
is_quiet_input (input.Stream n) i put = true
is_quiet_input _ i put = false

abbrev pub is_quiet_waiting : Waiting → Option Interaction → List Site → Bool
is_quiet_waiting (waiting.Event e) i put = is_empty put
is_quiet_waiting (waiting.Input x) i put = is_quiet_input x i put

abbrev pub is_quiet : Option Item → Option Waiting → Option Interaction → List Site → Bool
is_quiet (Some i) w begun put = is_quiet_item i put
is_quiet None (Some w) begun put = is_quiet_waiting w begun put
is_quiet None None begun put = true
