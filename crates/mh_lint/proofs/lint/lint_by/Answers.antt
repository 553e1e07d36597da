use Rattle.std.proofs.Common.{◌++◌, ap, ◌∙◌, List, ℕ}
use Rattle.mh_lint.specs.NoteLines.{notes_words}
use Rattle.mh_lint.specs.Notes.{notes}
use Rattle.mh_lint.proofs.lint.lint_by.Goals as goal

pub returns : goal.returns
returns c =
    let v = c.args.service.now in
    let added = notes_words c.args.asked.allowed v c.args.grounds.now (notes c.args.asked.all c.args.grounds.now v) in
    record {
      alive = c.in_ok-text.ensures.alive;
      is = c.in_ok-text.ensures.is;
      lines = c.in_ok-put_all_notes.ensures ∙ ap (λ (t : List ℕ). t ++ added) c.in_ok-text.ensures.lines;
    }
