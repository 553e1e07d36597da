use Rattle.std.specs.Prelude.{Some, option_and_then}
use Rattle.std.proofs.Common.{ap, subst, sym, ◌∙◌, ◌≤◌}
use Rattle.std.proofs.lemmas.Result.{IfOk-weaker}
use Rattle.serde_json.specs.Data.{Data, depth}
use Rattle.serde_json.specs.Written.{compact_text, has_float}
use Rattle.mh_findings.specs.Json.{finding_in}
use Rattle.mh_findings.proofs.JsonLemmas.{no_float, reads_back, shallow}
use Rattle.mh_findings.proofs.json.json_of.Goals as goal

pub returns-clause-text : goal.returns-clause-text
returns-clause-text c =
    let is = c.in_ok-value.ensures in
    IfOk-weaker c.to_string.result _ _
    (λ s told. told (ap has_float is ∙ no_float c.args.finding.now) ∙ ap compact_text is)
    c.to_string.ensures.text

pub returns-clause-reads_back : goal.returns-clause-reads_back
returns-clause-reads_back c =
    let is = c.in_ok-value.ensures in
    IfOk-weaker c.to_string.result _ _
    (λ s told. ap (option_and_then finding_in) (told (subst (λ (d : Data). depth d ≤ 127) (sym is) (shallow c.args.finding.now)) ∙ ap Some is) ∙ reads_back c.args.finding.now)
    c.to_string.ensures.reads_back
