use Rattle.std.proofs.Common.{◌∙◌}
use Rattle.std.specs.Str.{bytes_eq}
use Rattle.mh_store.proofs.TableLemmas.{is_other, is_own, lookup-object_at, object_at-elsewhere}
use Rattle.mh_store.proofs.group.Group.boxed.Goals as goal

pub returns-then-ne : goal.returns-then-ne
returns-then-ne c =
    let other = is_other (bytes_eq c.args.at.now.group c.self.inside.name) c.if-ne.ensures in
    rw (← c.self.view_is) (object_at-elsewhere c.args.at.now c.self.inside.name c.self.inside.table.entries other c.self.invariant)

pub returns : goal.returns
returns c =
    let own = is_own (bytes_eq c.args.at.now.group c.self.inside.name) c.if-ne.ensures in
    rw (← c.self.view_is) (c.find.ensures ∙ lookup-object_at c.args.at.now c.self.inside.name c.self.inside.table.entries own c.self.invariant)
