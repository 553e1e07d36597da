use Rattle.std.proofs.Common.{List, ℕ, ap, subst, ◌∙◌}
use Rattle.std.proofs.lemmas.Option.{get_or_from_slice_get}
use Rattle.mh_told.specs.Reading.{Source}
use Rattle.mh_places.proofs.DirectoryLemmas.{beside_more}
use Rattle.mh_lint.specs.NoteLines.{IsTurnedOff}
use Rattle.mh_lint.proofs.grounds.allowed_by_file.Goals as goal

pub loop-file-preserved : goal.loop-file-preserved
loop-file-preserved c =
    let file = c.file-item.result in
    let turned = c.in_ok-allowed_in.field-0 in
    beside_more IsTurnedOff c.args.files.now c.loop-file.file-index c.loop-file.allowed.items c.push.new.self.items turned c.loop-file.invariant c.in_ok-push.ensures.items
    (λ f at. subst (λ (bs : List ℕ). IsTurnedOff bs turned)
    (c.as_slice.ensures.value ∙ ap (λ (s : Source). s.1.items) (c.file-item.is ∙ get_or_from_slice_get c.args.files.now c.loop-file.file-index f file at)) c.in_ok-allowed_in.ensures)
