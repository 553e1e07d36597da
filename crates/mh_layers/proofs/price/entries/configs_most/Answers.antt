use Rattle.std.proofs.Common.{rules}
use Rattle.mh_laws.specs.Flow.{reached}
use Rattle.mh_layers.specs.Reading.{flow_read}
use Rattle.mh_layers.proofs.NamesLemmas.{all_reached, parts_pass}
use Rattle.mh_layers.proofs.price.entries.configs_most.Goals as goal

pub configs_from-requires : goal.configs_from-requires
configs_from-requires g c =
    let w = flow_read c.args.numbered_service.now in
    (parts_pass (reached w) w.configs c.in-Some.first.now c.in-Some.rest.now (all_reached w) (search rules)).1
