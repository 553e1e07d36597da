use Rattle.std.proofs.Common.{Option, ap, ◌∙◌}
use Rattle.std.specs.Option.{option_copied}
use Rattle.mh_told.specs.Reading.{Source as File}
use Rattle.mh_places.specs.Directory.{file_of}
use Rattle.mh_judged.specs.Places.{part_by}
use Rattle.mh_judged.proofs.MarkLemmas.{found_span}
use Rattle.mh_judged.proofs.marked.Marked.part_in.Goals as goal

pub returns : goal.returns
returns c =
    let p = c.args.place.now in
    let d = c.args.detail in
    let fs = c.args.self.now in
    let held = option_copied c.marks_of.result in
    c.span_in.ensures
    ∙ ap (λ (o : Option File). part_by p d o held) (c.file_named-file.ensures ∙ (λ i. file_of ((c.files.ensures ∙ c.self.view_is) i) (c.as_bytes.ensures.value i)))
    ∙ found_span p d (file_of fs p.group) held c.marks_of.ensures
