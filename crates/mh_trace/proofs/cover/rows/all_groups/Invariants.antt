use Rattle.std.proofs.Common.{◌≡◌, map}
use Rattle.mh_trace.specs.Cover.{all_groups}
use Rattle.mh_trace.proofs.cover.rows.all_groups.Given as goal

abbrev pub invariant-loop-parts : goal.invariant-loop-parts
invariant-loop-parts l = l.rows.items ≡ all_groups l.entered.keys (map (λ x. x.now) l.yielded)
