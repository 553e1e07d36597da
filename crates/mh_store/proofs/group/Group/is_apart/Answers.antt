use Rattle.mh_store.proofs.ApartLemmas.{names_apart}
use Rattle.mh_store.proofs.group.Group.is_apart.Goals as goal

pub returns : goal.returns
returns c = rw (← c.self.view_is, ← c.other.view_is) (names_apart c.ne.result c.self.inside.name c.other.inside.name c.self.inside.table.entries c.other.inside.table.entries c.ne.ensures c.self.invariant c.other.invariant)
