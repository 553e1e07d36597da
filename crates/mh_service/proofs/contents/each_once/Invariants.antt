use Rattle.std.proofs.Common.{◌≡◌, ◌++◌, drop}
use Rattle.std.specs.List.{list_any}
use Rattle.std.specs.Str.{bytes_eq}
use Rattle.mh_service.proofs.contents.each_once.Given as goal

abbrev pub invariant-loop-name : goal.invariant-loop-name
invariant-loop-name l = (name : _) → list_any (bytes_eq name) (l.names.keys ++ drop l.name-index l.named) ≡ list_any (bytes_eq name) l.named
