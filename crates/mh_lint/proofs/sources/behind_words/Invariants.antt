use Rattle.std.proofs.Common.{◌≡◌, length}
use Rattle.mh_lint.specs.Sources.{behind_words}
use Rattle.mh_lint.proofs.sources.behind_words.Given as goal

abbrev pub decreases-loop-rest : goal.decreases-loop-rest
decreases-loop-rest l = length l.rest

abbrev pub invariant-loop-rest : goal.invariant-loop-rest
invariant-loop-rest l = behind_words l.words l.rest ≡ behind_words l.words l.line
