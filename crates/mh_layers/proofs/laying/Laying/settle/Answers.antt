use Rattle.std.proofs.Common.{rules}
use Rattle.mh_layers.proofs.LayingLemmas.{noted_layers}
use Rattle.mh_layers.proofs.laying.Laying.settle.Goals as goal

pub returns-in_ok-note-in-Ok-clause-layers : goal.returns-in_ok-note-in-Ok-clause-layers
returns-in_ok-note-in-Ok-clause-layers g c =
    noted_layers _ _ _ _ _ c.in-Ok.cost c.requires.layers c.requires.free (λ has. let told = c.worth.ensures has in search rules) c.in_ok-note-in-Ok.ensures.noted
