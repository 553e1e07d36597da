use Rattle.std.proofs.Common.{◌≡◌, map}
use Rattle.std.specs.List.{flat_map}
use Rattle.mh_service.specs.Contents.{parts_files}
use Rattle.mh_service.proofs.service.Service.named.Given as goal

abbrev pub invariant-loop-parts : goal.invariant-loop-parts
invariant-loop-parts l = l.named.items ≡ flat_map parts_files (map (λ x. x.now) l.yielded)
