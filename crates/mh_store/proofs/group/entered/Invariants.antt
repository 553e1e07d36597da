use Rattle.std.proofs.Common.{◌≡◌, ◌++◌, drop, map, true}
use Rattle.mh_store.specs.Table.{entry_of}
use Rattle.mh_store.proofs.FreshLemmas.{are_new}
use Rattle.mh_store.proofs.group.entered.Given as goal

abbrev pub invariant-loop-part : goal.invariant-loop-part
invariant-loop-part l = record {
  found : l.table.entries ++ map entry_of (drop l.part-index l.parts) ≡ map entry_of l.parts;
  new : are_new l.table.entries (drop l.part-index l.parts) ≡ true;
}
