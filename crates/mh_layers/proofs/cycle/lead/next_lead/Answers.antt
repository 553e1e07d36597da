use Rattle.std.specs.Prelude.{◌≡◌, Option, Some, None, IfSome, refl}
use Rattle.std.proofs.Common.{inr}
use Rattle.mh_layers.specs.declared.numbered_node.NumberedNode.{NumberedNode}
use Rattle.mh_layers.specs.Walk.{IsOneOf}
use Rattle.mh_layers.proofs.LeadLemmas.{lead_stays}
use Rattle.mh_layers.proofs.cycle.lead.next_lead.Goals as goal

pub returns-then-is_passed : goal.returns-then-is_passed
returns-then-is_passed c = lead_stays c.args.lead c.args.node.now
