use Rattle.mh_model.specs.Planes.{flat}
use Rattle.mh_model.proofs.picture.filled.Goals as goal

pub returns : goal.returns
unfolding flat
returns c = c.in_ok-numbers.ensures.items_if_clones_equal (λ y e. e)
