use Rattle.std.proofs.Common.{◌≡◌, ◌++◌, map, drop}
use Rattle.std.specs.List.{list_all}
use Rattle.mh_service.specs.Resolved.{field_leads, property_of}
use Rattle.mh_service.proofs.resolving.properties.Given as goal

abbrev pub invariant-loop-field : goal.invariant-loop-field
invariant-loop-field l = record {
  found : l.properties ++ map (property_of l.from) (drop l.field-index l.fields) ≡ map (property_of l.from) l.fields;
  good : list_all (field_leads l.from) (drop l.field-index l.fields) ≡ list_all (field_leads l.from) l.fields;
}
