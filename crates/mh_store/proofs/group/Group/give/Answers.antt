use Rattle.std.proofs.Common.{ap, ◌∙◌}
use Rattle.std.specs.Str.{bytes_eq}
use Rattle.mh_model.specs.Bodies.{given}
use Rattle.mh_store.specs.Table.{objects_of}
use Rattle.mh_store.specs.Trying.{left_over}
use Rattle.mh_store.proofs.TableLemmas.{is_other, is_own, keyed-changed, changed_at-changed_in, lookup-object_at, changed_in-elsewhere, object_at-elsewhere}
use Rattle.mh_store.proofs.group.Group.give.Goals as goal

pub returns-then-ne-clause-done : goal.returns-then-ne-clause-done
returns-then-ne-clause-done c =
    let other = is_other (bytes_eq c.args.at.now.group c.self.inside.name) c.if-ne.ensures in
    rw (← c.self.view_is) (changed_in-elsewhere (λ _ b. given c.args.value b) c.args.at.now c.self.inside.name c.self.inside.table.entries other c.self.invariant)

pub returns-then-ne-clause-back : goal.returns-then-ne-clause-back
returns-then-ne-clause-back c =
    let other = is_other (bytes_eq c.args.at.now.group c.self.inside.name) c.if-ne.ensures in
    rw (← c.self.view_is) (ap (left_over c.args.value) (object_at-elsewhere c.args.at.now c.self.inside.name c.self.inside.table.entries other c.self.invariant))

pub invariant_of-self : goal.invariant_of-self
invariant_of-self c = rw c.give_under.ensures.done (keyed-changed (λ _ b. given c.args.value b) c.args.at.now.number c.self.inside.name c.self.inside.table.entries c.self.invariant)

pub returns-clause-done : goal.returns-clause-done
returns-clause-done c =
    let own = is_own (bytes_eq c.args.at.now.group c.self.inside.name) c.if-ne.ensures in
    rw (← c.self.view_is) (ap objects_of c.give_under.ensures.done ∙ changed_at-changed_in (λ _ b. given c.args.value b) c.args.at.now c.self.inside.name c.self.inside.table.entries own c.self.invariant)

pub returns-clause-back : goal.returns-clause-back
returns-clause-back c =
    let own = is_own (bytes_eq c.args.at.now.group c.self.inside.name) c.if-ne.ensures in
    rw (← c.self.view_is) (c.give_under.ensures.back ∙ ap (left_over c.args.value) (lookup-object_at c.args.at.now c.self.inside.name c.self.inside.table.entries own c.self.invariant))
