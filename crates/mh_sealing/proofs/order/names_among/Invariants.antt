use Rattle.std.proofs.Common.{◌≡◌, ◌++◌, drop}
use Rattle.mh_sealing.specs.Sealing.{late_among}
use Rattle.mh_sealing.proofs.order.names_among.Given as goal

abbrev pub invariant-loop-file : goal.invariant-loop-file
invariant-loop-file l = l.names.items ++ late_among l.late.keys (drop l.file-index l.files) ≡ late_among l.late.keys l.files
