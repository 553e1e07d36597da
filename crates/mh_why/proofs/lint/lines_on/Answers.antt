use Rattle.std.proofs.Common.{ap, sym, subst, ◌∙◌}
use Rattle.mh_model.specs.Service.{Service}
use Rattle.mh_flow.specs.Equipment.{equipped}
use Rattle.mh_flow.specs.Solved.{IsFlowOf}
use Rattle.mh_why.proofs.LintLemmas.{kept_ok, lines_so}
use Rattle.mh_why.proofs.lint.lines_on.Goals as goal

pub lint_text-requires : goal.lint_text-requires
lint_text-requires c =
    let same = c.new-service.ensures ∙ ap (equipped c.service.result.now) c.programs.ensures ∙ c.service.ensures.same in
    subst (λ (v : Service). IsFlowOf v c.flow.result.now) (sym same) c.flow.ensures.flow

pub returns : goal.returns
returns c =
    let same = c.new-service.ensures ∙ ap (equipped c.service.result.now) c.programs.ensures ∙ c.service.ensures.same in
    kept_ok c.lint_text.result
    (λ text told. lines_so c.findings_never_happen.ensures c.args.asked c.args.accepted.now.service c.new-service.result c.args.files.now c.flow.result.now c.args.accepted.now.bounds text same c.flow.ensures.accepted told)
    c.lint_text.ensures
