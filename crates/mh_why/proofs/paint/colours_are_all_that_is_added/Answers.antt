use Rattle.mh_why.proofs.PaintLemmas.{text_painted}
use Rattle.mh_why.proofs.paint.colours_are_all_that_is_added.Goals as goal

pub returns : goal.returns
returns c = text_painted
