use Rattle.std.proofs.Common.{◌≡◌, ◌++◌, drop, map}
use Rattle.mh_layers.specs.NumberedEffects.{effects_at}
use Rattle.mh_layers.proofs.numbered.effect_table.EffectTable.of.Given as goal

abbrev pub invariant-loop-at : goal.invariant-loop-at
invariant-loop-at l = l.rows.items ++ map (effects_at l.service) (drop l.at-index l.objects) ≡ map (effects_at l.service) l.objects
