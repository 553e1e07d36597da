use Rattle.std.proofs.Common.{◌≡◌, List, ◌++◌, ap, ◌∙◌}
use Rattle.std.specs.List.{flat_map}
use Rattle.mh_flow.specs.Sites.{Site}
use Rattle.mh_flow.specs.Walks.{Walk, listed, walk_if}
use Rattle.mh_flow.proofs.SiteLemmas.{through_sites}
use Rattle.mh_flow.proofs.opening.walks.put_part.Goals as goal

pub returns : goal.returns
returns c = λ q.
    let old = listed q c.args.table.now.entries in
    c.in_ok-put_sites.ensures q
    ∙ ap (λ (xs : List Site). old ++ flat_map (λ x. walk_if q c.args.part.now x.act) xs) (c.as_slice.ensures.value ∙ c.in_ok-sites.ensures)
    ∙ ap (λ (t : List Walk). old ++ t) (through_sites (walk_if q c.args.part.now) c.args.part.now)
