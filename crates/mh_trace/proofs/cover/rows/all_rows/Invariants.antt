use Rattle.std.proofs.Common.{◌≡◌, map}
use Rattle.mh_trace.specs.Cover.{all_rows}
use Rattle.mh_trace.proofs.cover.rows.all_rows.Given as goal

abbrev pub invariant-loop-parts : goal.invariant-loop-parts
invariant-loop-parts l = l.rows.items ≡ all_rows l.done.keys (map (λ x. x.now) l.yielded)
