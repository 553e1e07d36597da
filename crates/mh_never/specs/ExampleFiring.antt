-- The first example, of whose link 11 the law of links that nothing puts to work does not hold: the red key puts it to work.
use Rattle.std.specs.Prelude.{◌≡◌, false, true, List, []}
use Rattle.mh_base.specs.declared.obj_ref.ObjRef.{ObjRef}
use Rattle.mh_model.specs.declared.input.Move.{Move}
use Rattle.mh_model.specs.Receiver.{IsRun, anything}
use Rattle.mh_model.specs.State.{State}
use Rattle.mh_laws.specs.ExampleFirst.{s, service}
use Rattle.mh_laws.specs.Headline.{begun_with}
use Rattle.mh_never.specs.Firing.{IsUnput}

abbrev pub eleven : ObjRef
eleven = record { group = s; number = 11 }

-- not in each state of each run is link 11 one that nothing may put to work
abbrev pub FiresFirst : Type 0
FiresFirst =
    ((ms : List Move) (t : State) → IsRun [] anything ms (begun_with service 60000 []) t → IsUnput eleven t) → false ≡ true
