use Rattle.mh_store.proofs.BringingLemmas.{put_among_none}
use Rattle.mh_store.proofs.scene.put_in.Goals as goal

pub returns-in_default : goal.returns-in_default
returns-in_default c = rw c.in_default.is (put_among_none c.args.ready.items)
