use Rattle.std.proofs.Common.{ap, sym, ◌∙◌}
use Rattle.std.specs.Prelude.{nat_eq}
use Rattle.std.specs.Map.{lookup, set_value}
use Rattle.mh_store.specs.Table.{objects_of}
use Rattle.mh_store.specs.Trying.{left_over}
use Rattle.mh_store.proofs.TableLemmas.{change_first-elsewhere, object_at-elsewhere, set_value-renewed_in, keyed-renewed, lookup-object_at}
use Rattle.mh_store.proofs.group.Group.renew.Goals as goal

pub returns-then-not-is_in-clause-done : goal.returns-then-not-is_in-clause-done
returns-then-not-is_in-clause-done c =
    rw (← c.self.view_is) (change_first-elsewhere (λ _. c.args.kept) c.args.kept.fixed.key c.self.inside.name c.self.inside.table.entries (sym c.if-not-is_in.ensures) c.self.invariant)

pub returns-then-not-is_in-clause-back : goal.returns-then-not-is_in-clause-back
returns-then-not-is_in-clause-back c =
    rw (← c.self.view_is) (ap (left_over c.args.kept) (object_at-elsewhere c.args.kept.fixed.key c.self.inside.name c.self.inside.table.entries (sym c.if-not-is_in.ensures) c.self.invariant))

pub invariant_of-self : goal.invariant_of-self
invariant_of-self c = rw (c.renew_under.ensures.done, c.number.ensures) (keyed-renewed c.args.kept c.self.inside.name c.self.inside.table.entries (sym c.if-not-is_in.ensures) c.self.invariant)

pub returns-clause-done : goal.returns-clause-done
returns-clause-done c =
    rw (← c.self.view_is)
    (ap objects_of (c.renew_under.ensures.done ∙ ap (λ n. set_value (nat_eq n) c.self.inside.table.entries c.args.kept) c.number.ensures)
    ∙ set_value-renewed_in c.args.kept c.self.inside.name c.self.inside.table.entries (sym c.if-not-is_in.ensures) c.self.invariant)

pub returns-clause-back : goal.returns-clause-back
returns-clause-back c =
    rw (← c.self.view_is)
    (c.renew_under.ensures.back
    ∙ ap (λ n. left_over c.args.kept (lookup (nat_eq n) c.self.inside.table.entries)) c.number.ensures
    ∙ ap (left_over c.args.kept) (lookup-object_at c.args.kept.fixed.key c.self.inside.name c.self.inside.table.entries (sym c.if-not-is_in.ensures) c.self.invariant))
