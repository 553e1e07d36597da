use Rattle.std.proofs.Common.{◌≡◌, drop}
use Rattle.mh_try.specs.Led.{preset_all}
use Rattle.mh_try.proofs.running.preset_all.Given as goal

abbrev pub invariant-loop-file : goal.invariant-loop-file
invariant-loop-file l = preset_all (drop l.file-index l.contents) l.machine ≡ preset_all l.contents l.initial.machine
