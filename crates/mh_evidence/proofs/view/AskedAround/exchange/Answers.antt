use Rattle.mh_evidence.proofs.GroupLemmas.{entered}
use Rattle.mh_evidence.proofs.view.AskedAround.exchange.Goals as goal

pub returns : goal.returns
returns c =
    entered c.args.self.now c.exchanged.result c.args.group.now c.parts.result.now c.args.found c.enter.result c.exchanged.ensures c.parts.ensures c.enter.ensures
