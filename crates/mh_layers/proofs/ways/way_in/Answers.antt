use Rattle.std.proofs.Common.{ℕ, refl, subst, sym}
use Rattle.mh_layers.specs.declared.numbered_node.NumberedNode.TheVariants as node
use Rattle.mh_layers.specs.Caused.{IsNamed}
use Rattle.mh_layers.specs.Staging.{AreStagesFrom}
use Rattle.mh_layers.proofs.WayLemmas.{taken_named}
use Rattle.mh_layers.proofs.ways.way_in.Goals as goal

pub stages_from-requires-clause-named : goal.stages_from-requires-clause-named
stages_from-requires-clause-named c =
    subst (λ (n : ℕ). IsNamed c.args.numbered_service.now (node.Taken n c.args.kind)) (sym c.config_number-number.ensures)
    (taken_named c.args.numbered_service.now c.requires.reading c.args.config.now c.requires.reached c.args.kind)

pub returns : goal.returns
returns c = record {
  kind = refl;
  config = c.in_ok-copy.ensures;
  cost = refl;
  stages = subst (λ (n : ℕ). AreStagesFrom c.args.numbered_service.now (node.Taken n c.args.kind) c.in_ok-stages.stages.items) c.config_number-number.ensures c.in_ok-stages.ensures;
}
