use Rattle.std.proofs.Common.{◌≡◌, drop, None}
use Rattle.std.specs.List.{flat_map}
use Rattle.mh_flow.specs.Solved.{flow_in}
use Rattle.mh_verify.specs.Refusals.{refusals_in}
use Rattle.mh_verify.specs.Least.{least_of}
use Rattle.mh_verify.proofs.first_refusal.first_in.Given as goal

abbrev pub invariant-loop-config : goal.invariant-loop-config
invariant-loop-config l =
    least_of l.best (flat_map (refusals_in l.service (flow_in l.service l.flow)) (drop l.config-index l.configs))
    ≡ least_of None (flat_map (refusals_in l.service (flow_in l.service l.flow)) l.configs)
