-- The dearest ways of the service of some files.
use Rattle.std.specs.Prelude.{◌≡◌, ℕ, List, [], Option, Some, None, Ok, Vec}
use Rattle.std.specs.declared.alloc.Global.{Global}
use Rattle.mh_model.specs.Service.{Service}
use Rattle.mh_laws.specs.Costs.{Effect}
use Rattle.mh_laws.specs.Layers.{IsLayering}
use Rattle.mh_flow.specs.Equipment.{equipped}
use Rattle.mh_flow.specs.Solved.{IsFlowOf, Solved, flow_in}
use Rattle.mh_layers.specs.declared.ways.way.Way.{Way}
use Rattle.mh_layers.specs.Dearest.{AreDearestWays}
use Rattle.mh_told.specs.Reading.{Source as File, service_tagged}

-- these are the dearest ways of the service, by its flow
abbrev pub AreOf : Service → List Way → Type 0
AreOf v ways = (f : Solved) × IsFlowOf v f × AreDearestWays v (flow_in v f) ways

-- its effects put themselves to work
abbrev pub IsRound : Service → Type 0
IsRound v = (f : Solved) × IsFlowOf v f × ((rank : Effect → ℕ) → IsLayering v (flow_in v f) rank → ⊥)

-- the ways of a service; none where its effects put themselves to work
abbrev pub AreWaysIn : Service → Option (Vec Way Global) → Type 0
AreWaysIn v (Some ways) = AreOf v ways.items
AreWaysIn v None = IsRound v

-- They are those of the service that the files make, with the built-in programs; and there are none only where the files make no
-- service, or its effects put themselves to work.
abbrev pub AreWaysOf : Option (List ℕ) → List ℕ → Option (List ℕ) → List File → Option (Vec Way Global) → Type 0
AreWaysOf tags start late fs (Some ways) = (v : Service) × (service_tagged tags start late fs ≡ Ok v) × AreOf (equipped v []) ways.items
AreWaysOf tags start late fs None = (v : Service) → service_tagged tags start late fs ≡ Ok v → IsRound (equipped v [])
