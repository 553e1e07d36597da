use Rattle.std.proofs.Common.{◌≡◌, ◌++◌, map, drop}
use Rattle.std.specs.List.{list_all}
use Rattle.mh_service.specs.Resolved.{typed_leads, typed_of}
use Rattle.mh_service.proofs.acts.push_typed.Given as goal

abbrev pub invariant-loop-value : goal.invariant-loop-value
invariant-loop-value l = record {
  found : l.arguments ++ map (typed_of l.from) (drop l.value-index l.values) ≡ l.initial.arguments ++ map (typed_of l.from) l.values;
  good : list_all (typed_leads l.from) (drop l.value-index l.values) ≡ list_all (typed_leads l.from) l.values;
}
