use Rattle.std.proofs.Common.{◌≡◌, ◌||◌, List, ap, ◌∙◌}
use Rattle.std.specs.List.{list_any}
use Rattle.mh_base.specs.declared.obj_ref.ObjRef.{ObjRef}
use Rattle.mh_model.specs.Reference.{same_ref}
use Rattle.mh_flow.specs.Chart.{all_held, all_targeted}
use Rattle.mh_flow.proofs.ChartLemmas.{any_references}
use Rattle.mh_flow.proofs.chart.parts.put_ordered.Goals as goal

pub returns-clause-members : goal.returns-clause-members
returns-clause-members c =
    let v = c.args.service.now in
    λ q. c.in_ok-put_in_order.ensures.same q ∙ ap (list_any (same_ref q)) c.in_ok-put_service.ensures.held ∙ any_references q c.args.members.now.keys (all_held v) ∙ ap (λ (qs : List ObjRef). list_any (same_ref q) qs || list_any (same_ref q) (all_held v)) c.requires.members

pub returns-clause-targeted : goal.returns-clause-targeted
returns-clause-targeted c =
    let v = c.args.service.now in
    λ q. ap (list_any (same_ref q)) c.in_ok-put_service.ensures.targeted ∙ any_references q c.args.targeted.now.keys (all_targeted v) ∙ ap (λ (qs : List ObjRef). list_any (same_ref q) qs || list_any (same_ref q) (all_targeted v)) c.requires.targeted
