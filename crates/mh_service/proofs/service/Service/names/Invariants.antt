use Rattle.std.proofs.Common.{◌≡◌, map, filter}
use Rattle.mh_model.specs.Configuration.{is_group_of}
use Rattle.mh_service.specs.Wanted.{is_wanted}
use Rattle.mh_service.proofs.service.Service.names.Given as goal

abbrev pub invariant-loop-name : goal.invariant-loop-name
invariant-loop-name l = l.names.items ≡ filter (is_group_of (is_wanted l.wanted) l.self) (map (λ x. x.now) l.yielded)
