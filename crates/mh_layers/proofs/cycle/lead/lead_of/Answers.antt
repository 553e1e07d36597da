use Rattle.mh_layers.specs.Named.{IsEffectKept}
use Rattle.mh_layers.proofs.LeadLemmas.{lead_among, lead_each}
use Rattle.mh_layers.proofs.NamesLemmas.{each_item}
use Rattle.mh_layers.proofs.cycle.lead.lead_of.Goals as goal

pub next_lead-requires-clause-lead : goal.next_lead-requires-clause-lead
next_lead-requires-clause-lead c = lead_each (IsEffectKept c.args.numbered_service.now) c.args.nodes.now c.loop-node.lead c.requires c.loop-node.invariant

pub next_lead-requires-clause-node : goal.next_lead-requires-clause-node
next_lead-requires-clause-node c = each_item (IsEffectKept c.args.numbered_service.now) c.args.nodes.now c.loop-node.node-index _ c.loop-node-test.true c.requires

pub loop-node-preserved : goal.loop-node-preserved
loop-node-preserved c = lead_among c.args.nodes.now c.loop-node.node-index _ c.loop-node.lead c.in_ok-lead.lead c.loop-node-test.true c.loop-node.invariant c.in_ok-lead.ensures
