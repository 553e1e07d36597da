use Rattle.std.proofs.Common.{ap, ◌∙◌, [], List}
use Rattle.std.specs.List.{list_any}
use Rattle.mh_base.specs.declared.obj_ref.ObjRef.{ObjRef}
use Rattle.mh_model.specs.Reference.{same_ref}
use Rattle.mh_flow.specs.Chart.{with_references}
use Rattle.mh_flow.specs.Origins.{begun}
use Rattle.mh_flow.proofs.ChartLemmas.{any_references}
use Rattle.mh_flow.proofs.chain.origins.begun_of.Goals as goal

pub returns : goal.returns
returns c = λ q.
    c.in_ok-put_in_order.ensures.same q
    ∙ ap (λ (qs : List ObjRef). list_any (same_ref q) qs) c.in_ok-put_service.ensures
    ∙ ap (λ (qs : List ObjRef). list_any (same_ref q) (with_references qs (begun c.args.service.now c.args.link.now))) c.new-begun.ensures.empty
    ∙ any_references q [] (begun c.args.service.now c.args.link.now)
