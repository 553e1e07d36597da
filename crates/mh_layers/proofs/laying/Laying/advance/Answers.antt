use Rattle.std.proofs.Common.{rules}
use Rattle.mh_layers.proofs.LayingLemmas.{grows_on, placed_grows, placed_layers, waits_step}
use Rattle.mh_layers.proofs.laying.Laying.advance.Goals as goal

pub returns-in_ok-given-in-Some-clause-layers : goal.returns-in_ok-given-in-Some-clause-layers
returns-in_ok-given-in-Some-clause-layers g c = placed_layers _ _ _ _ _ _ c.in_ok-given-in-Some.ensures.placed c.settle.ensures.layers

pub returns-in_ok-given-in-Some-clause-grows : goal.returns-in_ok-given-in-Some-clause-grows
returns-in_ok-given-in-Some-clause-grows g c = grows_on _ _ _ c.settle.ensures.grows (placed_grows _ _ _ _ c.in_ok-given-in-Some.ensures.placed)

pub returns-in_ok-given-in-Some-clause-step : goal.returns-in_ok-given-in-Some-clause-step
returns-in_ok-given-in-Some-clause-step g c = waits_step _ _ _ _ _ _ c.in-Some.next _ c.in_ok-settle.field-0 (search rules) c.in_ok-settle.ensures.settled c.in_ok-given-in-Some.ensures.placed
