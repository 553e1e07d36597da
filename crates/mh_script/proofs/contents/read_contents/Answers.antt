use Rattle.std.proofs.Common.{List, ◌++◌, ◌+◌, drop, ap, sym, ◌∙◌}
use Rattle.mh_model.specs.declared.file.File.{File}
use Rattle.mh_script.specs.Contents.{contents, content_in}
use Rattle.mh_script.proofs.ContentLemmas.{one_more, none_more}
use Rattle.mh_script.proofs.contents.read_contents.Goals as goal
use Rattle.mh_script.proofs.contents.read_contents.Goals.{in-Some+in_ok-push, in_default}

pub loop-file-preserved : goal.loop-file-preserved
loop-file-preserved c =
    let tags = c.args.tags.now in
    let v = c.args.service.now in
    let fs = c.args.files.now in
    let at = c.loop-file.file-index in
    let behind = λ (found : List File). found ++ contents tags v (drop (at + 1) fs) in
    let here = ap (content_in tags v) (sym c.file-item.is) ∙ sym (c.in_ok-content.ensures v c.in_ok-names.ensures) in
    elim c.match-branch-3.branch [
      | in-Some+in_ok-push w ↦ ap behind (w.found-is ∙ w.in_ok-push.ensures.added)
          ∙ one_more tags v fs at c.file-item.result c.loop-file.found w.in-Some.content c.loop-file-test.true (here ∙ w.in-Some.is) c.loop-file.invariant
      | in_default w ↦ ap behind w.found-is ∙ none_more tags v fs at c.file-item.result c.loop-file.found c.loop-file-test.true (here ∙ w.in_default.is) c.loop-file.invariant
    ]
