use Rattle.std.proofs.Common.{◌≡◌, ◌++◌, drop}
use Rattle.std.specs.List.{flat_map}
use Rattle.mh_told.specs.Told.{fault_line}
use Rattle.mh_report.proofs.telling.put_all_faults.Given as goal

abbrev pub invariant-loop-fault : goal.invariant-loop-fault
invariant-loop-fault l = l.text ++ flat_map fault_line (drop l.fault-index l.faults) ≡ l.initial.text ++ flat_map fault_line l.faults
