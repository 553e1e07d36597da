use Rattle.std.proofs.Common.{◌≡◌, ◌++◌, drop}
use Rattle.mh_service.specs.Contents.{parts_files}
use Rattle.mh_service.proofs.contents.push_parts.Given as goal

abbrev pub invariant-loop-part : goal.invariant-loop-part
invariant-loop-part l = l.named.items ++ parts_files (drop l.part-index l.parts) ≡ l.initial.named.items ++ parts_files l.parts
