use Rattle.mh_widgets.proofs.MarkLemmas.{marked_there}
use Rattle.mh_widgets.proofs.selection.mark.Goals as goal

pub returns-clause-marked : goal.returns-clause-marked
returns-clause-marked c = marked_there c.args.place c.args.on c.args.entries.now.items c.index_mut.result.now c.index_mut.ensures.value
