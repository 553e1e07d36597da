use Rattle.std.proofs.Common.{◌∙◌, ℕ, subst}
use Rattle.mh_layers.specs.Staging.{IsWayIn}
use Rattle.mh_layers.specs.Taking.{taken_laid}
use Rattle.mh_layers.proofs.WayLemmas.{way_found, way_here}
use Rattle.mh_layers.proofs.ways.way_of.Goals as goal

pub way_in-requires-clause-reached : goal.way_in-requires-clause-reached
way_in-requires-clause-reached c =
    way_here c.args.numbered_service.now c.requires.reading c.args.laying.now c.requires.laid c.args.kind c.configs_for-configs.result.now c.first_largest-place.result c.config_at-config.result.now c.configs_for-configs.ensures c.config_at-config.ensures

pub returns : goal.returns
returns c =
    way_found c.args.numbered_service.now c.requires.reading c.args.laying.now c.requires.layers c.requires.laid c.args.kind c.configs_for-configs.result.now c.as_slice-numbers.result.now c.first_largest-place.result c.config_at-config.result.now c.in_ok-way.way
    c.configs_for-configs.ensures (c.as_slice-numbers.ensures.value ∙ c.in_ok-costs.ensures) c.first_largest-place.ensures c.config_at-config.ensures
    (subst (λ (n : ℕ). IsWayIn c.args.numbered_service.now c.config_at-config.result.now c.args.kind n c.in_ok-way.way) c.number_at-cost.ensures c.in_ok-way.ensures)
