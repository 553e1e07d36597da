use Rattle.std.proofs.Common.{◌≡◌, ◌++◌, drop, length, map, suc}
use Rattle.mh_layers.specs.NumberedEffects.{first_numbers}
use Rattle.mh_layers.proofs.numbering.first_numbers.Given as goal

abbrev pub invariant-loop-effect : goal.invariant-loop-effect
invariant-loop-effect l =
    l.numbers.items ++ first_numbers (suc (length l.acts.items)) (map (λ e. e.now) (drop l.effect-index l.effects))
    ≡ first_numbers 1 (map (λ e. e.now) l.effects)
