use Rattle.mh_store.proofs.FreshLemmas.{objects_of-parts, keyed-parts}
use Rattle.mh_store.proofs.group.Group.fresh.Goals as goal

pub invariant_of-result : goal.invariant_of-result
invariant_of-result c = rw (c.in_ok-table.ensures, c.in_ok-name.ensures.cases) (keyed-parts c.args.name.now c.args.parts.now c.requires.own)

pub returns : goal.returns
returns c = rw c.in_ok-table.ensures (objects_of-parts c.args.parts.now)
