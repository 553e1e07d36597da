use Rattle.std.proofs.Common.{◌≡◌, drop}
use Rattle.mh_evidence.specs.Counting.{all_counted}
use Rattle.mh_evidence.proofs.sites.count_effects.Given as goal

abbrev pub invariant-loop-effect : goal.invariant-loop-effect
invariant-loop-effect l = all_counted l.part.key l.number l.left (drop l.effect-index l.effects) ≡ all_counted l.part.key l.number l.fn.left l.effects
