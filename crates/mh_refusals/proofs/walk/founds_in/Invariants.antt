use Rattle.std.proofs.Common.{◌≡◌, drop, []}
use Rattle.std.specs.List.{flat_map}
use Rattle.mh_flow.specs.Solved.{flow_in}
use Rattle.mh_verify.specs.Refusals.{refusals_in}
use Rattle.mh_refusals.specs.Places.{listed}
use Rattle.mh_refusals.proofs.walk.founds_in.Given as goal

abbrev pub invariant-loop-config : goal.invariant-loop-config
invariant-loop-config l =
    listed l.most l.list.items (flat_map (refusals_in l.service (flow_in l.service l.flow)) (drop l.config-index l.configs))
    ≡ listed l.most [] (flat_map (refusals_in l.service (flow_in l.service l.flow)) l.configs)
