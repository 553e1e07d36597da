use Rattle.std.proofs.Common.{◌≡◌, ◌++◌, map, drop}
use Rattle.std.specs.List.{list_all}
use Rattle.mh_service.specs.Resolved.{member_leads, member_of}
use Rattle.mh_service.proofs.resolving.held_members.Given as goal

abbrev pub invariant-loop-one : goal.invariant-loop-one
invariant-loop-one l = record {
  found : l.members ++ map (member_of l.from) (drop l.one-index l.written) ≡ map (member_of l.from) l.written;
  good : list_all (member_leads l.from) (drop l.one-index l.written) ≡ list_all (member_leads l.from) l.written;
}
