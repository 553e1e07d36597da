use Rattle.std.proofs.Common.{◌≡◌, ◌<◌, ◌≤◌, ◌-◌, ◌^◌, ◌++◌, ◌&&◌, nat_le}
use Rattle.mh_told.specs.Frame.{runs, row_cells}
use Rattle.mh_told.specs.Masks.{Tells, is_last}
use Rattle.mh_told.specs.Stretch.{runs_left}
use Rattle.mh_told.proofs.row.put_runs.Given as goal

abbrev pub invariant-loop-first : goal.invariant-loop-first
invariant-loop-first l =
    (l.first ≤ 60) × (l.lasts < 2 ^ 64) × Tells (λ k. nat_le l.first k && is_last l.picture l.row k) l.lasts
    × (l.text ++ runs_left l.picture l.row l.first ≡ l.fn.text ++ runs (row_cells l.picture l.row))

abbrev pub decreases-loop-first : goal.decreases-loop-first
decreases-loop-first l = 60 - l.first
