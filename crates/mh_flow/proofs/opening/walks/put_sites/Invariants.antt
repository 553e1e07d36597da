use Rattle.std.proofs.Common.{◌≡◌, ◌++◌, drop}
use Rattle.std.specs.List.{flat_map}
use Rattle.mh_base.specs.declared.obj_ref.ObjRef.{ObjRef}
use Rattle.mh_flow.specs.Walks.{listed, walk_if}
use Rattle.mh_flow.proofs.opening.walks.put_sites.Given as goal

abbrev pub invariant-loop-site : goal.invariant-loop-site
invariant-loop-site l =
    (q : ObjRef) → listed q l.table.entries ++ flat_map (λ x. walk_if q l.part x.act) (drop l.site-index l.sites)
    ≡ listed q l.initial.table.entries ++ flat_map (λ x. walk_if q l.part x.act) l.sites
