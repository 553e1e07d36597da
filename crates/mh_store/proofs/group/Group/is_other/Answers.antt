use Rattle.mh_store.proofs.ApartLemmas.{name_apart}
use Rattle.mh_store.proofs.group.Group.is_other.Goals as goal

pub returns : goal.returns
returns c = rw (← c.self.view_is) (name_apart c.ne.result c.args.name.now c.self.inside.name c.self.inside.table.entries c.ne.ensures c.self.invariant)
