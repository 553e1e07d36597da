use Rattle.std.proofs.Common.{◌≡◌, ◌++◌, drop}
use Rattle.std.specs.List.{list_all, flat_map}
use Rattle.mh_service.specs.Resolved.{parameter_leads, arguments_of}
use Rattle.mh_service.proofs.acts.arguments.Given as goal

abbrev pub invariant-loop-parameter : goal.invariant-loop-parameter
invariant-loop-parameter l = record {
  found : l.arguments ++ flat_map (arguments_of l.from) (drop l.parameter-index l.parameters) ≡ flat_map (arguments_of l.from) l.parameters;
  good : list_all (parameter_leads l.from) (drop l.parameter-index l.parameters) ≡ list_all (parameter_leads l.from) l.parameters;
}
