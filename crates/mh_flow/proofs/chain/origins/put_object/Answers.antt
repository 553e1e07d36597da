use Rattle.std.proofs.Common.{List, ap, ◌∙◌}
use Rattle.std.specs.List.{flat_map}
use Rattle.mh_flow.specs.Chart.{with_references}
use Rattle.mh_flow.specs.Origins.{begun_at, first_begun}
use Rattle.mh_flow.specs.Sites.{Site, sites}
use Rattle.mh_flow.proofs.ChartLemmas.{with_more}
use Rattle.mh_flow.proofs.chain.origins.put_object.Goals as goal

pub returns : goal.returns
returns c =
    let old = c.args.begun.now.keys in
    let link = c.args.link.now in
    let p = c.args.part.now in
    c.in_ok-put_sites.ensures
    ∙ (λ i. with_references (c.in_ok-put_first.ensures i) (flat_map (begun_at link) c.as_slice.result.now))
    ∙ ap (λ (xs : List Site). with_references (with_references old (first_begun link p)) (flat_map (begun_at link) xs)) (c.as_slice.ensures.value ∙ c.in_ok-sites.ensures)
    ∙ with_more old (first_begun link p) (flat_map (begun_at link) (sites p))
