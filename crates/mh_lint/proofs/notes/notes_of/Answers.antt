use Rattle.std.proofs.Common.{◌∙◌}
use Rattle.std.proofs.lemmas.Result.{IfOk-weaker}
use Rattle.mh_lint.specs.Notes.{notes_with}
use Rattle.mh_lint.proofs.notes.notes_of.Goals as goal

pub returns : goal.returns
returns c =
    let all = c.args.all in
    let files = c.args.files.now in
    let v = c.args.service.now in
    IfOk-weaker c.notes_with.result _ _ (λ notes same. same ∙ (λ i. notes_with all files (c.in_ok-uses.ensures i) v)) c.notes_with.ensures
