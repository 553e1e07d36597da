use Rattle.std.proofs.Common.{◌≡◌, ◌++◌}
use Rattle.std.specs.Prelude.{filter, map}
use Rattle.mh_group.specs.Table.{is_runnable}
use Rattle.mh_model.specs.Groups.{halts}
use Rattle.mh_work.specs.Batches.{written}
use Rattle.mh_work.proofs.groups.push_all_halts.Given as goal

abbrev pub invariant-loop-part : goal.invariant-loop-part
invariant-loop-part l =
    let stopped = filter (λ p. is_runnable p.class) (map (λ x. x.now) l.yielded) in
    written l.batches.items ≡ written l.initial.batches.items ++ halts stopped
