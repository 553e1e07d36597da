use Rattle.std.proofs.Common.{◌≡◌, ℕ, ◌<◌, ◌≤◌, List, length, get_or}
use Rattle.std.specs.Prelude.{true, not, ◌==◌}
use Rattle.mh_base.proofs.group_name.folder_of.Given as goal

-- behind `end` there is no slash
pub record HasNoSlashBehind (path : List ℕ) (end : ℕ) : Type 0 where
  pub within : end ≤ length path
  pub none : (k : ℕ) → end ≤ k → k < length path → not (get_or path k 0 == 47) ≡ true

abbrev pub invariant-loop-end : goal.invariant-loop-end
invariant-loop-end l = HasNoSlashBehind l.path l.end

abbrev pub decreases-loop-end : goal.decreases-loop-end
decreases-loop-end l = l.end
