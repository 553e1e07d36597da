use Rattle.std.proofs.Common.{◌≡◌, ◌++◌, drop}
use Rattle.std.specs.Prelude.{filter}
use Rattle.mh_model.specs.Groups.{runs, is_initially_active}
use Rattle.mh_work.specs.Batches.{written}
use Rattle.mh_work.proofs.groups.push_runs.Given as goal

abbrev pub invariant-loop-part : goal.invariant-loop-part
invariant-loop-part l =
    written l.batches.items ++ runs (filter is_initially_active (drop l.part-index l.parts))
    ≡ written l.initial.batches.items ++ runs (filter is_initially_active l.parts)
