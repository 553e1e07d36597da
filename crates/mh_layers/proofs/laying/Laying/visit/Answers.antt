use Rattle.mh_layers.proofs.LayingLemmas.{grows_equal, grows_on, layers_equal, placed_grows, placed_layers}
use Rattle.mh_layers.proofs.laying.Laying.visit.Goals as goal

pub returns-in_err-open-clause-layers : goal.returns-in_err-open-clause-layers
returns-in_err-open-clause-layers g c = placed_layers _ _ _ _ _ _ c.in_ok-place.ensures.placed c.settle.ensures.layers

pub returns-in_err-open-clause-grows : goal.returns-in_err-open-clause-grows
returns-in_err-open-clause-grows g c = grows_on _ _ _ c.settle.ensures.grows (placed_grows _ _ _ _ c.in_ok-place.ensures.placed)

pub returns-in_err-widen-clause-layers : goal.returns-in_err-widen-clause-layers
returns-in_err-widen-clause-layers g c = layers_equal _ _ _ _ c.widen.ensures (placed_layers _ _ _ _ _ _ c.in_ok-place.ensures.placed c.settle.ensures.layers)

pub returns-in_err-widen-clause-grows : goal.returns-in_err-widen-clause-grows
returns-in_err-widen-clause-grows g c = grows_on _ _ _ (grows_on _ _ _ c.settle.ensures.grows (placed_grows _ _ _ _ c.in_ok-place.ensures.placed)) (grows_equal _ _ c.widen.ensures)

pub returns-in_ok-widen-clause-layers : goal.returns-in_ok-widen-clause-layers
returns-in_ok-widen-clause-layers g c = layers_equal _ _ _ _ c.widen.ensures (placed_layers _ _ _ _ _ _ c.in_ok-place.ensures.placed c.settle.ensures.layers)

pub returns-in_ok-widen-clause-grows : goal.returns-in_ok-widen-clause-grows
returns-in_ok-widen-clause-grows g c = grows_on _ _ _ (grows_on _ _ _ c.settle.ensures.grows (placed_grows _ _ _ _ c.in_ok-place.ensures.placed)) (grows_equal _ _ c.widen.ensures)
