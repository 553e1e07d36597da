use Rattle.mh_store.proofs.BringingLemmas.{put_nowhere}
use Rattle.mh_store.proofs.bringing.put_one.Goals as goal

pub returns-in_default : goal.returns-in_default
returns-in_default c = put_nowhere c.args.table.now.entries c.args.one.place c.args.one.kept c.in_default.ensures.value
