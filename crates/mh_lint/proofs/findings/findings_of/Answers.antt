use Rattle.std.proofs.Common.{◌++◌, ap, ◌∙◌}
use Rattle.std.specs.List.{flat_map}
use Rattle.mh_lint.specs.Findings.{of_group}
use Rattle.mh_lint.proofs.FindingLemmas.{groups_joined}
use Rattle.mh_lint.proofs.findings.findings_of.Goals as goal

pub loop-parts-init : goal.loop-parts-init
loop-parts-init c =
    let a = c.args.alive.now in
    let every = c.args.all in
    let cs = c.args.configs.now in
    let all = ap (flat_map (of_group every a cs)) (c.into_iter-parts-iterator.ensures.into_iter_gives ∙ c.values-parts-items.ensures.rest) ∙ groups_joined (of_group every a cs) c.groups.result.now.entries ∙ ap (flat_map (λ g. of_group every a cs g.1)) c.groups.ensures.entries in
    (λ i. c.new-found.ensures.items i ++ all i)
