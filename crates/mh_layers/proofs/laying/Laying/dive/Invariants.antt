use Rattle.mh_layers.specs.Layering.{AreLayers, Grows}
use Rattle.mh_layers.proofs.laying.Laying.dive.Given as goal

abbrev pub invariant-loop : goal.invariant-loop
invariant-loop g l =
    AreLayers (g.P.Prices.price l.prices) (g.P.Prices.kept l.prices) l.self × Grows l.initial.self l.self
