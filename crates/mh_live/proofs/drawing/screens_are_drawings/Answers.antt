use Rattle.mh_live.proofs.DrawingLemmas.{all_drawn}
use Rattle.mh_live.proofs.drawing.screens_are_drawings.Goals as goal

pub returns : goal.returns
returns c = all_drawn
