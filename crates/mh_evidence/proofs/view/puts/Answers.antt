use Rattle.mh_evidence.proofs.ActLemmas.{puts_found}
use Rattle.mh_evidence.proofs.view.puts.Goals as goal

pub returns : goal.returns
returns c =
    puts_found c.args.service.now c.args.arrow.now c.args.next.now c.args.act.now c.of.result c.act.result c.in-Ok.found c.of.ensures c.in-Ok.is c.act.ensures
