use Rattle.std.proofs.Common.{◌≡◌, List, IfOk, subst, sym}
use Rattle.std.specs.Prelude.{filter}
use Rattle.mh_base.specs.declared.obj_ref.ObjRef.{ObjRef}
use Rattle.mh_flow.specs.Steps.{is_one_of}
use Rattle.mh_flow.proofs.OriginLemmas.{told_found}
use Rattle.mh_flow.proofs.chain.origins.origins_of.Goals as goal

pub returns-in_ok-begun-in-Some : goal.returns-in_ok-begun-in-Some
returns-in_ok-begun-in-Some c =
    told_found c.args.service.now c.args.sought.now.keys c.args.links.now c.in-Some.link.now c.in_ok-begun-in-Some.begun.keys c.sought_of.result (sym c.in-Some.ensures.value) c.in_ok-begun-in-Some.ensures
    (subst (λ (qs : List ObjRef). IfOk c.sought_of.result (λ origins. origins.items ≡ filter (is_one_of c.args.sought.now.keys) qs)) c.as_slice.ensures.keys c.sought_of.ensures)
