-- Which timers are there, and whether one of them is what a link waits for.
use Rattle.std.specs.Prelude.{Bool, false, List, [], map, Option, Some, None}
use Rattle.std.specs.List.{list_any}
use Rattle.indexmap.specs.IndexSet.{insert_all}
use Rattle.mh_base.specs.declared.obj_ref.ObjRef.{ObjRef}
use Rattle.mh_base.specs.declared.value.Value.{Value}
use Rattle.mh_base.specs.declared.value.Value.TheVariants as value
use Rattle.mh_model.specs.Reference.{same_key}
use Rattle.mh_alive.specs.declared.tellings.SetTimer.{SetTimer}
use Rattle.mh_alive.specs.Tellings.{same_timer}

-- the timers, and the groups that have one
pub record Timers : Type 0 where
  pub set : List SetTimer
  pub groups : List ObjRef

abbrev pub timers_with : List SetTimer → Timers
timers_with ts = record { set = ts; groups = insert_all same_key [] (map (λ t. t.at) ts) }

-- a timer of the group is there, with the id if one is named
abbrev pub is_timed : Timers → ObjRef → Option Value → Bool
is_timed x r None = list_any (same_key r) x.groups
is_timed x r (Some (value.Int n)) = list_any (same_timer (record { at = r; id = n })) x.set
is_timed x r (Some v) = false
