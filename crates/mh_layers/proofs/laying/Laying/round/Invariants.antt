use Rattle.std.proofs.Common.{◌^◌, ◌-◌}
use Rattle.mh_layers.specs.Layering.{AreLayers, AreWaiting, Grows, IsStep}
use Rattle.mh_layers.proofs.laying.Laying.round.Given as goal

abbrev pub invariant-loop-place : goal.invariant-loop-place
invariant-loop-place g l =
    AreLayers (g.P.Prices.price l.prices) (g.P.Prices.kept l.prices) l.self × Grows l.initial.self l.self × IsStep l.initial.self l.self l.changed
    × AreWaiting (g.P.Prices.price l.prices) (g.P.Prices.kept l.prices) l.initial.self l.place l.changed

abbrev pub decreases-loop-place : goal.decreases-loop-place
decreases-loop-place g l = 2 ^ 64 - l.place
