use Rattle.std.proofs.Common.{ap, ◌∙◌}
use Rattle.mh_store.specs.Table.{objects_of}
use Rattle.mh_store.proofs.BringingLemmas.{keyed-put, objects-put}
use Rattle.mh_store.proofs.group.Group.put.Goals as goal

pub invariant_of-self : goal.invariant_of-self
invariant_of-self c = rw c.put_all.ensures (keyed-put c.self.inside.name c.args.ready.items c.self.inside.table.entries (rw c.self.view_is c.requires) c.self.invariant)

pub returns : goal.returns
returns c = rw (← c.self.view_is) (ap objects_of c.put_all.ensures ∙ objects-put c.args.ready.items c.self.inside.table.entries)
