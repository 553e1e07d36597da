use Rattle.std.proofs.Common.{◌≡◌, ◌++◌, drop}
use Rattle.std.specs.List.{flat_map}
use Rattle.mh_base.specs.declared.obj_ref.ObjRef.{ObjRef}
use Rattle.mh_flow.specs.Walks.{listed, walks}
use Rattle.mh_flow.proofs.opening.walks.table_of.Given as goal

abbrev pub invariant-loop-part : goal.invariant-loop-part
invariant-loop-part l =
    (q : ObjRef) → listed q l.table.entries ++ walks q (drop l.part-index l.parts) ≡ walks q l.parts
