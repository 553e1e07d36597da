use Rattle.std.proofs.Common.{◌≡◌, ◌++◌, drop}
use Rattle.mh_engine.specs.Sealed.{entries_of, first_unsealed}
use Rattle.mh_engine.proofs.sealed.starting.entries_of.Given as goal

abbrev pub invariant-loop-group : goal.invariant-loop-group
invariant-loop-group l = record {
  found : l.entries.items ++ entries_of (drop l.group-index l.seal.groups) l.files.items ≡ entries_of l.seal.groups l.initial.files.items;
  sealed : first_unsealed l.seal (drop l.group-index l.seal.groups) l.files.items ≡ first_unsealed l.seal l.seal.groups l.initial.files.items;
}
