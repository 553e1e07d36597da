use Rattle.mh_layers.specs.Layering.{AreLayers, Grows}
use Rattle.mh_layers.proofs.laying.Laying.dives.Given as goal

abbrev pub invariant-loop-root : goal.invariant-loop-root
invariant-loop-root g l =
    AreLayers (g.P.Prices.price l.prices) (g.P.Prices.kept l.prices) l.self × Grows l.initial.self l.self
