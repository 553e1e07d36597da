use Rattle.std.proofs.Common.{ap, sym, subst, ◌∙◌}
use Rattle.mh_model.specs.Service.{Service}
use Rattle.mh_flow.specs.Equipment.{equipped}
use Rattle.mh_flow.specs.Solved.{IsFlowOf}
use Rattle.mh_judged.proofs.ListLemmas.{kept_ok, list_so}
use Rattle.mh_judged.proofs.accepted.accepted_findings.Goals as goal

pub list_by_flow-requires : goal.list_by_flow-requires
list_by_flow-requires c =
    let same = c.new-service.ensures ∙ ap (equipped c.service.result.now) c.programs.ensures ∙ c.service.ensures.same in
    subst (λ (v : Service). IsFlowOf v c.flow.result.now) (sym same) c.flow.ensures.flow

pub returns : goal.returns
returns c =
    let same = c.new-service.ensures ∙ ap (equipped c.service.result.now) c.programs.ensures ∙ c.service.ensures.same in
    kept_ok c.list_by_flow.result
    (λ found told. list_so c.findings_never_happen.ensures c.args.asked c.args.accepted.now.service c.new-service.result c.args.folder.now c.args.files.now c.flow.result.now c.args.accepted.now.bounds found.items same c.flow.ensures.accepted told)
    c.list_by_flow.ensures
