use Rattle.std.proofs.Common.{◌≡◌, ◌++◌, drop}
use Rattle.std.specs.List.{flat_map}
use Rattle.mh_service.specs.Contents.{act_files}
use Rattle.mh_service.proofs.contents.push_acts.Given as goal

abbrev pub invariant-loop-act : goal.invariant-loop-act
invariant-loop-act l = l.named.items ++ flat_map act_files (drop l.act-index l.acts) ≡ l.initial.named.items ++ flat_map act_files l.acts
