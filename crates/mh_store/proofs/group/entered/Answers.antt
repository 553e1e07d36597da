use Rattle.std.proofs.Common.{◌++◌, map, ap}
use Rattle.mh_store.specs.Table.{entry_of}
use Rattle.mh_store.proofs.FreshLemmas.{are_new-from_nothing}
use Rattle.mh_store.proofs.group.entered.Goals as goal

pub loop-part-init : goal.loop-part-init
loop-part-init c = record {
  found = ap (λ es. es ++ map entry_of c.args.parts.now) c.in_ok-table.ensures.empty;
  new = rw c.in_ok-table.ensures.empty (are_new-from_nothing c.args.name.now c.args.parts.now c.requires.own c.requires.apart);
}
