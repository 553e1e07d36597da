use Rattle.mh_model.proofs.PlanesLemmas.{same_planes}
use Rattle.mh_model.proofs.picture.Picture.black.Goals as goal

pub returns : goal.returns
returns c = same_planes _ _ _ _ _ _ c.in_ok-filled.ensures c.in_ok-filled-2.ensures c.in_ok-filled-3.ensures
