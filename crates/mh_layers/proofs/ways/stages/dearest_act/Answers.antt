use Rattle.mh_layers.specs.Staging.{act_worth}
use Rattle.mh_layers.proofs.StageLemmas.{act_there, part_found}
use Rattle.mh_layers.proofs.ways.stages.dearest_act.Goals as goal

pub part_at-requires : goal.part_at-requires
part_at-requires c =
    let s = c.args.here.now in
    act_there (act_worth s.reading c.args.costs.now s.config) c.args.acts.now c.in_ok-found.found.items c.as_slice-numbers.result.now c.first_largest-offset.result c.in_ok-found.ensures c.as_slice-numbers.ensures.value c.first_largest-offset.ensures

pub returns : goal.returns
returns c =
    let s = c.args.here.now in
    part_found s.reading c.args.costs.now s.config c.args.acts.now c.in_ok-found.found.items c.as_slice-numbers.result.now c.first_largest-offset.result c.number_at-cost.result c.part_at.result
    c.in_ok-found.ensures c.as_slice-numbers.ensures.value c.first_largest-offset.ensures c.number_at-cost.ensures c.part_at.ensures
