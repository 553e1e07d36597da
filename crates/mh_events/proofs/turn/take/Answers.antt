use Rattle.std.proofs.Common.{◌∙◌}
use Rattle.mh_events.proofs.TurnLemmas.{filter_removed}
use Rattle.mh_events.proofs.turn.take.Goals as goal

pub returns : goal.returns
returns c = c.remove.ensures.entries ∙ filter_removed c.args.turn c.args.timers.now.entries c.len.ensures.ordered
