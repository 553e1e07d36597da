use Rattle.mh_layers.specs.Named.{IsEffectKept}
use Rattle.mh_layers.proofs.LeadLemmas.{best_led, each_led}
use Rattle.mh_layers.proofs.cycle.first_of.Goals as goal

pub first_along-requires-clause-effects : goal.first_along-requires-clause-effects
first_along-requires-clause-effects c = each_led (IsEffectKept c.args.numbered_service.now) c.args.nodes.now c.in_ok-all.all.items c.as_slice.result.now c.in_ok-lead.lead c.in_ok-all.ensures c.as_slice.ensures.value c.in_ok-lead.ensures c.requires

pub returns : goal.returns
returns c = best_led c.args.numbered_service.now c.args.node_graph.now.nodes.keys c.args.node_graph.now.graph c.args.nodes.now c.in_ok-all.all.items c.as_slice.result.now c.in_ok-lead.lead c.in_ok-best.best c.in_ok-all.ensures c.as_slice.ensures.value c.in_ok-lead.ensures c.in_ok-best.ensures
