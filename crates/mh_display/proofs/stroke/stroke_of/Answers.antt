use Rattle.mh_display.proofs.NearLemmas.{short}
use Rattle.mh_display.proofs.stroke.stroke_of.Goals as goal

pub returns-clause-short : goal.returns-clause-short
returns-clause-short c =
    short c.args.area.now c.args.drawing.now _ _ c.spot_of.ensures.spot c.«spot_of-2».ensures.spot c.spot_of.ensures.column c.spot_of.ensures.row c.spot_of.ensures.near c.«spot_of-2».ensures.near
