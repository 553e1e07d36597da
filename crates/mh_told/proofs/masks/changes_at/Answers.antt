use Rattle.mh_told.proofs.MaskLemmas.{changes_eight}
use Rattle.mh_told.proofs.masks.changes_at.Goals as goal

pub returns : goal.returns
returns c = changes_eight c.args.plane.now c.args.at c.requires
