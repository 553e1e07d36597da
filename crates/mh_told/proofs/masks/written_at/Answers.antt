use Rattle.mh_told.proofs.MaskLemmas.{written_eight}
use Rattle.mh_told.proofs.masks.written_at.Goals as goal

pub returns : goal.returns
returns c = written_eight c.args.scalars.now c.args.at c.requires
