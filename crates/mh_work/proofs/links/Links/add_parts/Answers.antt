use Rattle.std.proofs.Common.{rules}
use Rattle.mh_work.proofs.LinkLemmas.{places_more}
use Rattle.mh_work.proofs.links.Links.add_parts.Goals as goal

pub loop-index-preserved : goal.loop-index-preserved
loop-index-preserved c = λ n t.
    places_more c.args.first c.loop-index.index n t c.args.parts.now c.index-parts-index.result c.get.result.now _ _ _
    (search rules) (search rules) (search rules) (c.in_ok-add_part.ensures n t) (c.loop-index.invariant n t)
