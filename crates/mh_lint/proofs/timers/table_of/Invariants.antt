use Rattle.std.proofs.Common.{◌≡◌, ◌||◌, drop}
use Rattle.std.specs.Prelude.{ℤ}
use Rattle.mh_base.specs.declared.obj_ref.ObjRef.{ObjRef}
use Rattle.mh_lint.specs.Uses.{is_among, table_has}
use Rattle.mh_lint.proofs.timers.table_of.Given as goal

abbrev pub invariant-loop-one : goal.invariant-loop-one
invariant-loop-one l =
    (r : ObjRef) (n : ℤ) → (table_has l.table.entries r n || is_among (drop l.one-index l.timers) r n) ≡ is_among l.timers r n
