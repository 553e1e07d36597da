use Rattle.mh_layers.specs.Layering.{AreLayers, Grows, left}
use Rattle.mh_layers.proofs.laying.Laying.rounds.Given as goal

abbrev pub invariant-loop : goal.invariant-loop
invariant-loop g l =
    AreLayers (g.P.Prices.price l.prices) (g.P.Prices.kept l.prices) l.self × Grows l.initial.self l.self

abbrev pub decreases-loop : goal.decreases-loop
decreases-loop g l = left l.self
