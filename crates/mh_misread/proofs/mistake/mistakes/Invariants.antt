use Rattle.std.proofs.Common.{◌≡◌, ◌-◌, ◌++◌}
use Rattle.mh_misread.specs.Resuming.{mistakes, mistakes_by}
use Rattle.mh_misread.proofs.mistake.mistakes.Given as goal

abbrev pub invariant-loop : goal.invariant-loop
invariant-loop l = l.found.items ++ mistakes_by (l.most - l.counter) l.file l.next ≡ mistakes l.fn.most l.fn.file
