use Rattle.std.proofs.Common.{◌≡◌, true, take}
use Rattle.std.specs.List.{list_all}
use Rattle.mh_layers.specs.Layering.{AreLayers, Grows, has_place}
use Rattle.mh_layers.proofs.laying.Laying.places.Given as goal

abbrev pub invariant-loop-root : goal.invariant-loop-root
invariant-loop-root g l =
    AreLayers (g.P.Prices.price l.prices) (g.P.Prices.kept l.prices) l.self × Grows l.initial.self l.self × (list_all (has_place l.self) (take l.root-index l.roots) ≡ true)
