use Rattle.std.proofs.Common.{◌++◌, ap, ◌∙◌}
use Rattle.std.specs.List.{flat_map}
use Rattle.mh_lint.specs.Notes.{of_parts}
use Rattle.mh_lint.proofs.FindingLemmas.{groups_joined}
use Rattle.mh_lint.proofs.notes.notes_with.Goals as goal

pub loop-parts-init : goal.loop-parts-init
loop-parts-init c =
    let all = c.args.all in
    let files = c.args.files.now in
    let u = c.args.uses.now in
    let part = of_parts all files u c.late-late.result.now in
    let joined = ap (flat_map part) (c.into_iter-parts-iterator.ensures.into_iter_gives ∙ c.values-parts-items.ensures.rest) ∙ groups_joined part c.groups.result.now.entries ∙ (λ i. flat_map (λ g. of_parts all files u (c.late-late.ensures i) g.1) (c.groups.ensures.entries i)) in
    (λ i. c.new-notes.ensures.items i ++ joined i)
