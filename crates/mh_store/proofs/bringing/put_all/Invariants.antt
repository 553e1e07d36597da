use Rattle.std.proofs.Common.{◌≡◌}
use Rattle.mh_store.specs.Bringing.{entries_put}
use Rattle.mh_store.proofs.bringing.put_all.Given as goal

abbrev pub invariant-loop-one : goal.invariant-loop-one
invariant-loop-one l =
    entries_put l.one-iterator.rest.items l.table.entries ≡ entries_put l.initial.one-iterator.rest.items l.initial.table.entries
