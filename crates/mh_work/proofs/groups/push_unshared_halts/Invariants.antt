use Rattle.std.proofs.Common.{◌≡◌, ◌++◌}
use Rattle.std.specs.Prelude.{filter, map, not, ◌&&◌}
use Rattle.mh_group.specs.Table.{is_runnable}
use Rattle.mh_model.specs.Groups.{halts, is_shared}
use Rattle.mh_work.specs.Batches.{written}
use Rattle.mh_work.proofs.groups.push_unshared_halts.Given as goal

abbrev pub invariant-loop-part : goal.invariant-loop-part
invariant-loop-part l =
    let stopped = filter (λ p. is_runnable p.class && not (is_shared p)) (map (λ x. x.now) l.yielded) in
    written l.batches.items ≡ written l.initial.batches.items ++ halts stopped
