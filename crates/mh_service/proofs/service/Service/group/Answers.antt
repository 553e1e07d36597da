use Rattle.std.proofs.Common.{rules}
use Rattle.mh_service.proofs.Lookups.{lookup_find}
use Rattle.mh_service.proofs.ServiceLemmas.{apart_under, own_under}
use Rattle.mh_service.proofs.service.Service.group.Goals as goal

-- no two parts of any group have one key
pub returns-in-Some-clause-apart : goal.returns-in-Some-clause-apart
returns-in-Some-clause-apart c =
    apart_under (record { groups = c.self.inside.groups.entries; start = c.self.inside.start; programs = c.self.inside.programs.items; files = c.self.inside.files.items; late = c.self.inside.late.items }) c.args.name.now c.as_slice.result.now c.self.invariant.1 (search (rules, lookup_find))

-- and each stands under its name
pub returns-in-Some-clause-own : goal.returns-in-Some-clause-own
returns-in-Some-clause-own c =
    own_under (record { groups = c.self.inside.groups.entries; start = c.self.inside.start; programs = c.self.inside.programs.items; files = c.self.inside.files.items; late = c.self.inside.late.items }) c.args.name.now c.as_slice.result.now c.self.invariant.0 (search (rules, lookup_find))
