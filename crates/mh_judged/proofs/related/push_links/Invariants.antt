use Rattle.std.proofs.Common.{◌≡◌, ◌++◌, drop, map}
use Rattle.mh_judged.specs.Refusals.{link_related}
use Rattle.mh_judged.proofs.related.push_links.Given as goal

abbrev pub invariant-loop-link : goal.invariant-loop-link
invariant-loop-link l =
    l.related ++ map (link_related l.folder l.directory) (drop l.link-index l.chain)
    ≡ l.initial.related ++ map (link_related l.folder l.directory) l.chain
