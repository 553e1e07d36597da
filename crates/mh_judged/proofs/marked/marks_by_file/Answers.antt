use Rattle.std.proofs.Common.{List, ℕ, ap, subst, ◌∙◌}
use Rattle.std.proofs.lemmas.Option.{get_or_from_slice_get}
use Rattle.mh_told.specs.Reading.{Source}
use Rattle.mh_places.proofs.DirectoryLemmas.{beside_more}
use Rattle.mh_judged.specs.Places.{IsMarked}
use Rattle.mh_judged.proofs.marked.marks_by_file.Goals as goal

pub loop-file-preserved : goal.loop-file-preserved
loop-file-preserved c =
    let file = c.file-item.result in
    let told = c.in_ok-marks_in.field-0 in
    beside_more IsMarked c.args.files.now c.loop-file.file-index c.loop-file.all.items c.push.new.self.items told c.loop-file.invariant c.in_ok-push.ensures.items
    (λ f at. subst (λ (bs : List ℕ). IsMarked bs told)
    (c.as_slice.ensures.value ∙ ap (λ (s : Source). s.1.items) (c.file-item.is ∙ get_or_from_slice_get c.args.files.now c.loop-file.file-index f file at)) c.in_ok-marks_in.ensures)
