use Rattle.std.proofs.Common.{List, ap, ◌∙◌}
use Rattle.std.specs.List.{flat_map}
use Rattle.mh_flow.specs.Chart.{firsts, handed, targeted_by, with_references}
use Rattle.mh_flow.specs.Sites.{Site}
use Rattle.mh_flow.proofs.ChartLemmas.{held_put}
use Rattle.mh_flow.proofs.SiteLemmas.{through_sites}
use Rattle.mh_flow.proofs.references.put_part.Goals as goal

pub returns-clause-held : goal.returns-clause-held
returns-clause-held c =
    let old = c.args.held.now.keys in
    let p = c.args.part.now in
    c.in_ok-put_acts.ensures.held
    ∙ (λ i. with_references (c.in_ok-put_firsts.ensures i) (flat_map (λ (x : Site). handed x.act) c.as_slice.result.now))
    ∙ ap (λ (xs : List Site). with_references (with_references old (firsts p)) (flat_map (λ (x : Site). handed x.act) xs)) (c.as_slice.ensures.value ∙ c.in_ok-sites.ensures)
    ∙ ap (with_references (with_references old (firsts p))) (through_sites handed p)
    ∙ held_put old p

pub returns-clause-targeted : goal.returns-clause-targeted
returns-clause-targeted c =
    c.in_ok-put_acts.ensures.targeted
    ∙ ap (λ (xs : List Site). with_references c.args.targeted.now.keys (flat_map (λ (x : Site). targeted_by x.act) xs)) (c.as_slice.ensures.value ∙ c.in_ok-sites.ensures)
    ∙ ap (with_references c.args.targeted.now.keys) (through_sites targeted_by c.args.part.now)
