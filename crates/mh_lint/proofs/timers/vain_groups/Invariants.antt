use Rattle.std.proofs.Common.{◌≡◌, ◌||◌, drop}
use Rattle.std.specs.List.{list_any}
use Rattle.mh_base.specs.declared.obj_ref.ObjRef.{ObjRef}
use Rattle.mh_lint.specs.Uses.{is_key_of, waits_in_vain}
use Rattle.mh_lint.proofs.timers.vain_groups.Given as goal

abbrev pub invariant-loop-one : goal.invariant-loop-one
invariant-loop-one l =
    (r : ObjRef) → (is_key_of l.groups.keys r || list_any (waits_in_vain l.set r) (drop l.one-index l.heard)) ≡ list_any (waits_in_vain l.set r) l.heard
