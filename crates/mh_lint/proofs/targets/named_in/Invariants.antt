use Rattle.std.proofs.Common.{◌≡◌, ◌||◌, drop}
use Rattle.std.specs.List.{list_any}
use Rattle.mh_base.specs.declared.obj_ref.ObjRef.{ObjRef}
use Rattle.mh_model.specs.Reference.{same_key}
use Rattle.mh_lint.specs.Uses.{is_named}
use Rattle.mh_lint.proofs.targets.named_in.Given as goal

abbrev pub invariant-loop-target : goal.invariant-loop-target
invariant-loop-target l =
    (r : ObjRef) → (list_any (same_key r) l.named.keys || list_any (is_named r) (drop l.target-index l.targets)) ≡ list_any (is_named r) l.targets
