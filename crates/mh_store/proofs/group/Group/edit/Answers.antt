use Rattle.std.proofs.Common.{ap}
use Rattle.std.specs.Str.{bytes_eq}
use Rattle.mh_model.specs.Edits.{edited}
use Rattle.mh_store.specs.Trying.{left_over}
use Rattle.mh_store.proofs.TableLemmas.{is_other, is_own, keyed-tried, done-tried, back-tried, changed_in-elsewhere, object_at-elsewhere}
use Rattle.mh_store.proofs.group.Group.edit.Goals as goal

pub returns-then-ne-clause-done : goal.returns-then-ne-clause-done
returns-then-ne-clause-done c =
    let other = is_other (bytes_eq c.args.at.now.group c.self.inside.name) c.if-ne.ensures in
    rw (← c.self.view_is) (changed_in-elsewhere (edited c.args.edit) c.args.at.now c.self.inside.name c.self.inside.table.entries other c.self.invariant)

pub returns-then-ne-clause-back : goal.returns-then-ne-clause-back
returns-then-ne-clause-back c =
    let other = is_other (bytes_eq c.args.at.now.group c.self.inside.name) c.if-ne.ensures in
    rw (← c.self.view_is) (ap (left_over c.args.edit) (object_at-elsewhere c.args.at.now c.self.inside.name c.self.inside.table.entries other c.self.invariant))

pub invariant_of-self : goal.invariant_of-self
invariant_of-self c = keyed-tried c.edit_under.result (edited c.args.edit) c.args.at.now.number c.self.inside.name c.self.inside.table.entries c.edit_under.new.table.entries c.edit_under.ensures.done c.edit_under.ensures.kept c.self.invariant

pub returns-clause-done : goal.returns-clause-done
returns-clause-done c =
    let own = is_own (bytes_eq c.args.at.now.group c.self.inside.name) c.if-ne.ensures in
    rw (← c.self.view_is) (done-tried c.edit_under.result (edited c.args.edit) c.args.at.now c.self.inside.name c.self.inside.table.entries c.edit_under.new.table.entries own c.self.invariant c.edit_under.ensures.done)

pub returns-clause-back : goal.returns-clause-back
returns-clause-back c =
    let own = is_own (bytes_eq c.args.at.now.group c.self.inside.name) c.if-ne.ensures in
    rw (← c.self.view_is) (back-tried c.edit_under.result c.args.edit c.args.at.now c.self.inside.name c.self.inside.table.entries own c.self.invariant c.edit_under.ensures.back)
